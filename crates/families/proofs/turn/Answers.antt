use Rattle.std.proofs.Common.{refl}
use Rattle.families.proofs.Turning.{turning, next_some, on_line, line_less}
use Rattle.families.proofs.turn.Goals as goal

pub returns-then-fl-end : goal.returns-then-fl-end
returns-then-fl-end c = search turning

pub overflow_sub-u : goal.overflow_sub-u
overflow_sub-u c =
    next_some _ _ _ _ c.requires.0 _ c.requires.1 c.line_end-end.ensures c.if-fl-end.false _ c.line_key.ensures _ c.in_ok-key.ensures.ok_part _ c.next-u.ensures

pub returns : goal.returns
returns c = (
  on_line _ _ _ _ c.requires.0 _ c.requires.1 c.line_end-end.ensures c.if-fl-end.false _ c.line_key.ensures _ c.in_ok-key.ensures.ok_part _ c.next-u.ensures
      _ refl _ c.put.ensures _ c.mark_of-mark.ensures,
  line_less _ _ _ _ c.requires.0 _ c.requires.1 c.line_end-end.ensures c.if-fl-end.false _ c.line_key.ensures _ c.in_ok-key.ensures.ok_part _ c.next-u.ensures,
)
