-- Places of a stream, said of its bytes (document 01, "Refusal numbers and their order"): "Offset: first byte of the command at
-- fault, unless said." 2026-12: "For refusal 6 the offset is now the first byte of the argument outside its limit".
use Rattle.std.specs.Prelude.{ℕ, ◌+◌, ◌<◌, ◌≤◌, true, false, List, ◌≡◌, length, drop, get_or}
use Rattle.rules.specs.Bytes.{is, is_white, one_line}
use Rattle.rules.specs.Act.{Cmd}
use Rattle.rules.specs.Scan.{Scan, got, bad, command}
use Rattle.rules.specs.Widths.{Widths}
use Rattle.rules.specs.State.{Env, start, Glyph, Item, refused, went, acts, perform, stopped}
use Rattle.laws_arguments.specs.Arguments.{OutsideAt}
use Rattle.laws_arguments.specs.Names.{BarredIn}

-- the byte at a place, and what stands behind it
abbrev pub byte_at : List ℕ → ℕ → ℕ
byte_at s at = get_or s at 0

abbrev pub behind_at : List ℕ → ℕ → List ℕ
behind_at s at = drop (at + 1) s

-- what is scanned at a place
abbrev pub command_at : List ℕ → ℕ → Scan
command_at s at = command (byte_at s at) (behind_at s at)

-- A place between commands: the start; behind a byte of whitespace, a comment or a command that stands at such a place.
pub data Between (s : List ℕ) : ℕ → Type 0 where
  at_start : Between s 0
  behind-white : (at : ℕ) → Between s at → is_white (byte_at s at) ≡ true → Between s (at + 1)
  behind-comment : (at : ℕ) → Between s at → is "#" (byte_at s at) ≡ true → Between s (at + 1 + one_line (behind_at s at))
  behind-command : (at : ℕ) (c : Cmd) (a l : ℕ) → Between s at → command_at s at ≡ got c a l → Between s (at + l)

-- The first byte of a command, or of what is none: it stands between commands, and is neither whitespace nor `#`.
pub record FirstByte (s : List ℕ) (at : ℕ) : Type 0 where
  pub between : Between s at
  pub inside : at < length s
  pub no_white : is_white (byte_at s at) ≡ false
  pub no_comment : is "#" (byte_at s at) ≡ false

-- 2026-12: "the first byte of the argument outside its limit" of the command at a place p, k bytes behind it
abbrev pub ArgumentOutside : List ℕ → ℕ → ℕ → Type 0
ArgumentOutside s p k = OutsideAt (byte_at s p) (behind_at s p) k

pub record ArgumentAt (s : List ℕ) (at : ℕ) : Type 0 where
  pub place : ℕ
  pub first : FirstByte s place
  pub behind : ℕ
  pub offset : at ≡ place + behind
  pub outside : ArgumentOutside s place behind

-- 2026-06: a command with a barred byte in a name; the offset is its first byte
pub record BarredAt (s : List ℕ) (at : ℕ) : Type 0 where
  pub first : FirstByte s at
  pub barred : BarredIn (byte_at s at) (behind_at s at)

-- ---- "the command at fault"

-- The commands up to a place have been read, with these widths, and this is the environment behind them.
pub data ReadTo (w : Widths) (s : List ℕ) : ℕ → Env → Type 0 where
  from_start : ReadTo w s 0 start
  past_white : (at : ℕ) (e : Env) → ReadTo w s at e → is_white (byte_at s at) ≡ true → ReadTo w s (at + 1) e
  past_comment : (at : ℕ) (e : Env) → ReadTo w s at e → is "#" (byte_at s at) ≡ true → ReadTo w s (at + 1 + one_line (behind_at s at)) e
  past_command : (at : ℕ) (e d : Env) (c : Cmd) (a l : ℕ) (gs : List Glyph) (xs : List Item) → ReadTo w s at e
      → command_at s at ≡ got c a l → perform e (acts w e c) ≡ went d gs xs → ReadTo w s (at + l) d

-- What stands at a place p is at fault in this environment, with this number and offset: 3 to 5 as it is written; 6 by an argument; 16 by
-- a name, where nothing is outside its limit ("tested after 6 and before 7"); 7 to 10 by what it does; behind `x s` "a byte of anything"
-- is 7, whatever is written there.
pub data Fault (w : Widths) (s : List ℕ) (p : ℕ) (e : Env) : ℕ → ℕ → Type 0 where
  as_written : (n k : ℕ) → command_at s p ≡ bad n k → stopped e ≡ false → 3 ≤ n → n ≤ 5 → Fault w s p e n p
  by_argument : (k : ℕ) → ArgumentOutside s p k → stopped e ≡ false → Fault w s p e 6 (p + k)
  by_name : BarredIn (byte_at s p) (behind_at s p) → stopped e ≡ false → Fault w s p e 16 p
  as_done : (n : ℕ) (c : Cmd) (a l : ℕ) → command_at s p ≡ got c a l → perform e (acts w e c) ≡ refused n → 7 ≤ n → n ≤ 10 → Fault w s p e n p
  behind-stop : (n k : ℕ) → command_at s p ≡ bad n k → stopped e ≡ true → Fault w s p e 7 p

pub record AtFault (w : Widths) (s : List ℕ) (n at : ℕ) : Type 0 where
  pub place : ℕ
  pub first : FirstByte s place
  pub env : Env
  pub read_to : ReadTo w s place env
  pub fault : Fault w s place env n at
  -- "nothing else is judged there"
  pub after_stop : stopped env ≡ true → n ≡ 7

-- What a refusal of a stream points at: 3 to 10 and 16 at the command at fault, or in it; "no `x s`; offset is the length" is 11.
pub data StreamOffset (w : Widths) (s : List ℕ) : ℕ → ℕ → Type 0 where
  at_command : (n at : ℕ) → AtFault w s n at → StreamOffset w s n at
  at_end : (e : Env) → ReadTo w s (length s) e → stopped e ≡ false → StreamOffset w s 11 (length s)
