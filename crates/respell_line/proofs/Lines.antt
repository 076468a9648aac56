-- The commands that draw, and those that control, by their tags.
use mathlib.Core.List.{[], ◌∷◌}
use mathlib.Core.Logic.{inl, inr}
use mathlib.Core.Path.{sym, subst}
use borrow.Enum.Known.{lives_at}
use denote.Enum.Declared.{tag_of}
use types.Run.{OneOf}
use Rattle.scan_command.specs.declared.Command.{Command}
use Rattle.scan_command.specs.contracts.Command.{enum, the_type}
use Rattle.respell_control.specs.Control.{Control, device, resolution, init, file, mount, plain, raw, stop}
use Rattle.respell_drawing.specs.Drawing.{Drawing, shape, gray, fill}

pub is_drawing : (c : Command) → OneOf (12 ∷ 13 ∷ 14 ∷ []) (tag_of the_type c) → Drawing c
is_drawing c (inl e) = let v = lives_at enum c 12 e in subst Drawing (sym v.1) (shape v.0.0 v.0.1.0 v.0.1.1.0 v.0.1.1.1.0 v.0.1.1.1.1.0)
is_drawing c (inr (inl e)) = let v = lives_at enum c 13 e in subst Drawing (sym v.1) (gray v.0.0 v.0.1.0)
is_drawing c (inr (inr e)) = let v = lives_at enum c 14 e in subst Drawing (sym v.1) (fill v.0.0 v.0.1.0 v.0.1.1.0 v.0.1.1.1.0 v.0.1.1.1.1.0 v.0.1.1.1.1.1.0)

pub is_control : (c : Command) → OneOf (15 ∷ 16 ∷ 17 ∷ 18 ∷ 19 ∷ 20 ∷ 21 ∷ 22 ∷ []) (tag_of the_type c) → Control c
is_control c (inl e) = let v = lives_at enum c 15 e in subst Control (sym v.1) (device v.0.0 v.0.1.0 v.0.1.1.0)
is_control c (inr (inl e)) = let v = lives_at enum c 16 e in subst Control (sym v.1) (resolution v.0.0 v.0.1.0)
is_control c (inr (inr (inl e))) = let v = lives_at enum c 17 e in subst Control (sym v.1) (init v.0.0)
is_control c (inr (inr (inr (inl e)))) = let v = lives_at enum c 18 e in subst Control (sym v.1) (file v.0.0 v.0.1.0 v.0.1.1.0)
is_control c (inr (inr (inr (inr (inl e))))) = let v = lives_at enum c 19 e in subst Control (sym v.1) (mount v.0.0 v.0.1.0 v.0.1.1.0 v.0.1.1.1.0)
is_control c (inr (inr (inr (inr (inr (inl e)))))) = let v = lives_at enum c 20 e in subst Control (sym v.1) (plain v.0.0 v.0.1.0)
is_control c (inr (inr (inr (inr (inr (inr (inl e))))))) = let v = lives_at enum c 21 e in subst Control (sym v.1) (raw v.0.0)
is_control c (inr (inr (inr (inr (inr (inr (inr e))))))) = let v = lives_at enum c 22 e in subst Control (sym v.1) (stop v.0.0)

pub ruleset kinds = (is_drawing, is_control)
