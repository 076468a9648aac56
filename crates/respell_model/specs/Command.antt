-- What the house spelling has for one command, `H` and `V` before it included, and where a reader of the spelling is behind it.
-- In the code's own steps.
use Rattle.std.specs.Prelude.{ℕ, zero, suc, ◌-◌, List, [], ◌∷◌, ◌++◌, eqb, get_or, if◌then◌else◌}
use Rattle.rules.specs.Bytes.{origin}
use Rattle.scan_command.specs.declared.Command.{Command}
use Rattle.scan_command.specs.declared.Command.TheVariants as C
use Rattle.read_model.specs.declared.Environment.{Environment}
use Rattle.read_model.specs.declared.Word.{Word}
use Rattle.read_model.specs.Words.{word_next, word_here}
use Rattle.read_model.specs.Turns.{block_now}
use Rattle.respell_model.specs.declared.Manner.{Manner}
use Rattle.respell_model.specs.declared.Manner.TheVariants as M
use Rattle.respell_model.specs.Lines.{signed_arg, line_of}

-- ---- "`H` and then `V` are written, each only where the place differs from that a reader of the spelling so far has"

abbrev pub move_to : ℕ → ℕ → ℕ → List ℕ
move_to b p q = if eqb q p then [] else b ∷ (signed_arg q ++ 10 ∷ [])

-- from the place ph, pv to h, v
abbrev pub moves_to : ℕ → ℕ → ℕ → ℕ → List ℕ
moves_to ph pv h v = move_to 72 ph h ++ move_to 86 pv v

-- ---- a word: each byte a glyph at its place

unfoldable pub word_lines : ℕ → List ℕ → List ℕ → ℕ → ℕ → Word → List ℕ
word_lines zero s ws ph pv d = []
word_lines (suc n) s ws ph pv d =
    moves_to ph pv d.h d.v ++ (99 ∷ 32 ∷ get_or s d.at 0 ∷ 10 ∷ word_lines n s ws d.h d.v (word_next s ws d))

-- where a reader is behind it: at its last glyph
unfoldable pub word_pen_h : ℕ → List ℕ → List ℕ → ℕ → Word → ℕ
word_pen_h zero s ws ph d = ph
word_pen_h (suc n) s ws ph d = word_pen_h n s ws d.h (word_next s ws d)

abbrev pub word_pen_v : ℕ → ℕ → Word → ℕ
word_pen_v zero pv d = pv
word_pen_v (suc n) pv d = d.v

-- ---- how a command is written: the house spelling's manners, and a word and two digits by themselves

abbrev pub manner_of : Command → Manner
manner_of (C.Glyph p l n) = M.Anchored
manner_of (C.Index i n) = M.Anchored
manner_of (C.Word t p q n) = M.Lettered t p q
manner_of (C.Pair i p n) = M.Shifted
manner_of (C.To x i n) = M.Moving
manner_of (C.By x i n) = M.Moving
manner_of (C.Page i n) = M.Turning
manner_of (C.Font i n) = M.Floating
manner_of (C.Size i n) = M.Floating
manner_of (C.Colour k a b c d n) = M.Floating
manner_of (C.Break n) = M.Floating
manner_of (C.Space n) = M.Floating
manner_of (C.Draw b h v k n) = M.Anchored
manner_of (C.Gray i n) = M.Anchored
manner_of (C.Fill k a b c d n) = M.Anchored
manner_of (C.Device p l n) = M.Floating
manner_of (C.Resolution q n) = M.Floating
manner_of (C.Init n) = M.Floating
manner_of (C.File p l n) = M.Floating
manner_of (C.Mount i p l n) = M.Floating
manner_of (C.Plain b n) = M.Floating
manner_of (C.Raw n) = M.Anchored
manner_of (C.Stop n) = M.Anchored

-- the word of a command, in the environment before it
abbrev pub word_for : List ℕ → ℕ → Environment → ℕ → ℕ → ℕ → Word
word_for ws u e t p q = word_here e u t (q - p) p (block_now ws e)

-- What is written; e is the environment before the command, h and v the position behind it, t its line with the newline, and ph, pv
-- the place that a reader of the spelling so far has.
abbrev pub written : List ℕ → List ℕ → ℕ → Environment → ℕ → ℕ → ℕ → ℕ → List ℕ → Manner → List ℕ
written s ws u e h v ph pv t M.Anchored = moves_to ph pv e.h e.v ++ t
written s ws u e h v ph pv t M.Shifted = moves_to ph pv h v ++ t
written s ws u e h v ph pv t M.Floating = t
written s ws u e h v ph pv t M.Turning = t
written s ws u e h v ph pv t M.Moving = []
written s ws u e h v ph pv t (M.Lettered k p q) = word_lines (q - p) s ws ph pv (word_for ws u e k p q)

-- where a reader of the spelling is then
abbrev pub pen_h : List ℕ → List ℕ → ℕ → Environment → ℕ → ℕ → Manner → ℕ
pen_h s ws u e h ph M.Anchored = h
pen_h s ws u e h ph M.Shifted = h
pen_h s ws u e h ph M.Floating = ph
pen_h s ws u e h ph M.Turning = ph
pen_h s ws u e h ph M.Moving = ph
pen_h s ws u e h ph (M.Lettered k p q) = word_pen_h (q - p) s ws ph (word_for ws u e k p q)

abbrev pub pen_v : List ℕ → ℕ → Environment → ℕ → ℕ → Manner → ℕ
pen_v ws u e v pv M.Anchored = v
pen_v ws u e v pv M.Shifted = v
pen_v ws u e v pv M.Floating = pv
pen_v ws u e v pv M.Turning = origin
pen_v ws u e v pv M.Moving = pv
pen_v ws u e v pv (M.Lettered k p q) = word_pen_v (q - p) pv (word_for ws u e k p q)

-- all of it for a command at a place
unfoldable pub spelled_at : List ℕ → List ℕ → ℕ → Environment → ℕ → ℕ → ℕ → ℕ → ℕ → Command → List ℕ
spelled_at s ws u e at h v ph pv c = written s ws u e h v ph pv (line_of s at c ++ 10 ∷ []) (manner_of c)
