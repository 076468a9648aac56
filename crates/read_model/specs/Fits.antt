-- Bounds that the code's arithmetic rests on: of the environment, and of a command at a place.
use Rattle.std.specs.Prelude.{ℕ, ◌+◌, ◌*◌, ◌<◌, ◌≤◌, Result, Ok, Err}
use Rattle.rules.specs.Bytes.{origin}
use Rattle.rules.specs.declared.Refusal.{Refusal}
use Rattle.scan_command.specs.declared.Command.{Command}
use Rattle.scan_command.specs.declared.Command.TheVariants as C
use Rattle.read_model.specs.declared.Environment.{Environment}

-- the environment at a place: there are no more pages than bytes before it
pub record EnvFits (at : ℕ) (e : Environment) : Type 0 where
  pub h_some : 0 < e.h
  pub h_most : e.h < 2 * origin
  pub v_some : 0 < e.v
  pub v_most : e.v < 2 * origin
  pub number : e.number < 2 * origin
  pub ordinal : e.ordinal ≤ at
  pub size : e.size < origin
  pub quantum_some : 1 ≤ e.quantum
  pub quantum_most : e.quantum < origin
  pub font : e.font ≤ 256

-- a command at a place of a stream of n bytes ends at q
abbrev pub Ends : ℕ → ℕ → ℕ → Type 0
Ends at n q = (at < q) × (q ≤ n)

abbrev pub CommandIn : ℕ → ℕ → Command → Type 0
CommandIn at n (C.Glyph p l q) = Ends at n q × (p + l ≤ q)
CommandIn at n (C.Index i q) = Ends at n q × (i < 2 * origin)
CommandIn at n (C.Word t p r q) = Ends at n q × (t < 2 * origin) × (at ≤ p) × (p < r) × (r ≤ q)
CommandIn at n (C.Pair i p q) = Ends at n q × (i < 2 * origin) × (p < q)
CommandIn at n (C.To x i q) = Ends at n q × (0 < i) × (i < 2 * origin)
CommandIn at n (C.By x i q) = Ends at n q × (i < 2 * origin)
CommandIn at n (C.Page i q) = Ends at n q × (i < 2 * origin)
CommandIn at n (C.Font i q) = Ends at n q × (i < 256)
CommandIn at n (C.Size i q) = Ends at n q × (i < origin)
CommandIn at n (C.Colour s a b c d q) = Ends at n q
CommandIn at n (C.Break q) = Ends at n q
CommandIn at n (C.Space q) = Ends at n q
CommandIn at n (C.Draw b x y k q) = Ends at n q × (x ≤ k * (2 * origin)) × (y ≤ k * (2 * origin)) × (k ≤ 64)
CommandIn at n (C.Gray i q) = Ends at n q × (i < 2 * origin)
CommandIn at n (C.Fill s a b c d q) = Ends at n q
CommandIn at n (C.Device p l q) = Ends at n q
CommandIn at n (C.Resolution i q) = Ends at n q × (1 ≤ i) × (i < origin)
CommandIn at n (C.Init q) = Ends at n q
CommandIn at n (C.File p l q) = Ends at n q
CommandIn at n (C.Mount i p l q) = Ends at n q × (i < 256) × (p + l ≤ q)
CommandIn at n (C.Plain b q) = Ends at n q
CommandIn at n (C.Raw q) = Ends at n q
CommandIn at n (C.Stop q) = Ends at n q

-- what refuses a command at a place of such a stream
abbrev pub RefusalIn : ℕ → ℕ → Refusal → Type 0
RefusalIn at n r = (0 < r.number) × (at ≤ r.offset) × (r.offset ≤ n)

-- what was scanned there
abbrev pub ScannedIn : ℕ → ℕ → Result Command Refusal → Type 0
ScannedIn at n (Ok c) = CommandIn at n c
ScannedIn at n (Err r) = RefusalIn at n r
