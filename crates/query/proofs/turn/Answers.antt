use Rattle.query.proofs.Turning.{turning, glyph_long}
use Rattle.query.proofs.turn.Goals as goal

pub returns-then-q-end : goal.returns-then-q-end
returns-then-q-end c = search turning

pub overflow_sub-glyphs : goal.overflow_sub-glyphs
overflow_sub-glyphs c =
    glyph_long _ _ _ c.requires.0 _ c.requires.1 c.line_end-end.ensures c.if-q-end.false _ c.kind_of.ensures _ c.in_ok-kind.ensures.ok_part c.in-Glyph.is
