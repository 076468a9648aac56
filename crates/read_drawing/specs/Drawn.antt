-- What a drawing does; any other command is refused.
use Rattle.std.specs.Prelude.{ℕ, Result}
use Rattle.rules.specs.declared.Refusal.{Refusal}
use Rattle.scan_command.specs.declared.Command.{Command}
use Rattle.scan_command.specs.declared.Command.TheVariants as C
use Rattle.read_model.specs.declared.Environment.{Environment}
use Rattle.read_model.specs.declared.Did.{Did}
use Rattle.read_model.specs.Environment.{refusing, on_page_or, draw_on, gray_on, fill_on, colour_here}

abbrev pub drawn_at : Environment → ℕ → Command → Result Did Refusal
drawn_at e at (C.Draw b x y k q) = on_page_or e at (draw_on e b x y k at q)
drawn_at e at (C.Gray i q) = on_page_or e at (gray_on e i at q)
drawn_at e at (C.Fill x a b c d q) = on_page_or e at (fill_on e x (colour_here x a b c d) at q)
drawn_at e at _ = refusing 7 at
