-- The place behind a command lies behind its own, within the stream.
use Prim.Native.Nat.{ℕ}
use Rattle.scan_command.specs.declared.Command.{Command}
use Rattle.scan_command.specs.declared.Command.TheVariants as C
use Rattle.read_model.specs.Fits.{Ends, CommandIn}
use Rattle.read_model.specs.Turns.{next_of}

pub ends_in : (at n : ℕ) (c : Command) → CommandIn at n c → Ends at n (next_of c)
ends_in at n (C.Glyph p l q) i = i.0
ends_in at n (C.Index k q) i = i.0
ends_in at n (C.Word t p x q) i = i.0
ends_in at n (C.Pair k p q) i = i.0
ends_in at n (C.To x k q) i = i.0
ends_in at n (C.By x k q) i = i.0
ends_in at n (C.Page k q) i = i.0
ends_in at n (C.Font k q) i = i.0
ends_in at n (C.Size k q) i = i.0
ends_in at n (C.Colour x a b k d q) i = i
ends_in at n (C.Break q) i = i
ends_in at n (C.Space q) i = i
ends_in at n (C.Draw b x y k q) i = i.0
ends_in at n (C.Gray k q) i = i.0
ends_in at n (C.Fill x a b k d q) i = i
ends_in at n (C.Device p l q) i = i
ends_in at n (C.Resolution k q) i = i.0
ends_in at n (C.Init q) i = i
ends_in at n (C.File p l q) i = i
ends_in at n (C.Mount k p l q) i = i.0
ends_in at n (C.Plain b q) i = i
ends_in at n (C.Raw q) i = i
ends_in at n (C.Stop q) i = i
