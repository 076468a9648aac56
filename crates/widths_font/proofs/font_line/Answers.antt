use mathlib.Core.Path.{sym, ◌∙◌}
use Rattle.widths_font.proofs.Fonts.{font_new}
use Rattle.widths_font.proofs.font_line.Goals as goal

pub returns : goal.returns
returns c =
    font_new c.args.list.now c.args.table.now c.args.st c.args.next c.name_at-name.result.now c.args.place c.args.len c.name_at-name.ensures c.requires.1 c.told-table
    c.if-k-eq32.false c.requires.0.few (sym c.is_list_name.ensures ∙ c.if-not-is_list_name.false) (sym c.is_taken.ensures ∙ c.if-is_taken.false)
