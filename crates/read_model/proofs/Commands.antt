-- What the code does for a command is what the rules say of it.
use Rattle.std.specs.Prelude.{Option, Some, None, Result}
use Prim.Native.Nat.{ℕ, zero, suc, ◌+◌, ◌-◌, ◌<◌}
use native.Mathlib.Omega.{arith}
use mathlib.Core.Bool.{true, ◌&&◌}
use mathlib.Core.List.{List, [], ◌∷◌, append-nil}
use mathlib.Core.Path.{◌≡◌, refl, sym, ap}
use lib.Dec.{ltb}
use lib.ListN.{length}
use borrow.Author.Tests.{lt-ltb}
use Rattle.rules.specs.declared.Refusal.{Refusal}
use Rattle.rules.specs.Answers.{asked, and_then}
use Rattle.rules.specs.Bytes.{origin}
use Rattle.rules.specs.Act.{across, Act, glyph, by, Cmd, just, word, pair}
use Rattle.rules.specs.Widths.{Widths, advance}
use Rattle.rules.specs.State.{Step, refused, went, and_then as then, act, run, Acts, no_acts, these, ready, word_acts, word_in, acts, perform, mounted_at}
use Rattle.rules.specs.Record.{glyph_rows, item_rows}
use Rattle.scan_command.specs.View.{cmd_of}
use Rattle.laws.proofs.Cases.{on}
use Rattle.laws.proofs.Good.{Name, ShapedCmd}
use Rattle.read_model.specs.declared.Environment.{Environment}
use Rattle.read_model.specs.declared.Did.{Did}
use Rattle.read_model.specs.declared.Word.{Word}
use Rattle.read_model.specs.Environment.{font_of, env_of, with_spot, on_page, may_move, gone, placed_or, on_page_or, record_on, pair_on, did_of}
use Rattle.read_model.specs.Words.{word_end, word_records, word_here, word_to, word_set, word_on}
use Rattle.read_model.proofs.Acts.{Agrees, Placed, mounts_after, act_agrees, MountOf}
use Rattle.read_model.proofs.Words.{Reads, Wide, acts_wide, Ran, Carries, word_runs}

-- ---- a word

module _ (w : Widths) (s ws : List ℕ) (ms : List (List ℕ)) (at l p : ℕ) (e : Environment) (track block : ℕ) (u : ℕ) (h : u ≡ w.unitwidth) (z : Placed e) where
  abbrev far : ℕ → ℕ
  far x = advance x e.size w.unitwidth e.quantum + track

  abbrev here : ℕ → Word
  here n = word_here e u track n p block

  carries : (n f : ℕ) → on_page e ≡ true → e.font ≡ suc f → ltb 0 e.size ≡ true → Carries (env_of e ms) f w.unitwidth (here n)
  carries n f g q k = record {
    page = g;
    font = ap font_of q;
    sized = k;
    ordinal = refl;
    number = refl;
    position = rw q (omega arith);
    size = refl;
    quantum = refl;
    unitwidth = h;
  }

  ran_agrees : (n : ℕ) (h : Option ℕ) (x : Step) → Ran (env_of e ms) (here (suc n)) (suc n) h (word_records (suc n) s ws (here (suc n))) x
      → Agrees s ws ms at p l x (word_to e at (here (suc n)) h)
  unfolding item_rows
  ran_agrees n None (refused m) r = (rw r, rw r (omega arith))
  ran_agrees n (Some h) (refused m) r = r
  ran_agrees n None (went e' gs is) r = r
  ran_agrees n (Some h) (went e' gs is) r = rw r.2 (sym r.0, r.1, refl)

  -- what is done where all bytes have widths
  abbrev set : ℕ → Result Did Refusal
  set n = word_set s ws e at u track n p block

  acts_agree : (b : ℕ) (bs : List ℕ) (x : Acts) → Wide w.fonts [] s ws block far (b ∷ bs) p x
      → ((xs : List Act) → x ≡ these xs → Agrees s ws ms at p l (run (env_of e ms) xs) (word_to e at (here (suc (length bs))) (word_end (suc (length bs)) s ws (here (suc (length bs))))))
      → Agrees s ws ms at p l (perform (env_of e ms) x) (set (suc (length bs)))
  acts_agree b bs (no_acts n) h more = rw h.1 (rw h.0, rw h.0 (omega arith))
  acts_agree b bs (these xs) h more = rw h (more xs refl)

  -- a font and a size are there
  set_agrees : (b : ℕ) (bs : List ℕ) (f : ℕ) → on_page e ≡ true → e.font ≡ suc f → ltb 0 e.size ≡ true → Reads w.fonts (mounted_at f ms) s ws block far (b ∷ bs) p
      → Agrees s ws ms at p l (perform (env_of e ms) (word_in w (env_of e ms) track (b ∷ bs) f)) (set (suc (length bs)))
  set_agrees b bs f g q k r =
      acts_agree b bs (word_acts w.fonts (mounted_at f ms) far (b ∷ bs)) (acts_wide w.fonts (mounted_at f ms) s ws block far (b ∷ bs) p r)
      (λ xs h. ran_agrees (length bs) (word_end (suc (length bs)) s ws (here (suc (length bs)))) (run (env_of e ms) xs)
      (word_runs (env_of e ms) f w.unitwidth w.fonts (mounted_at f ms) s ws block track (b ∷ bs) (here (suc (length bs))) xs h (carries (suc (length bs)) f g q k) refl refl r))

  pub word_agrees : (bs : List ℕ) → Name bs → ((f : ℕ) → e.font ≡ suc f → Reads w.fonts (mounted_at f ms) s ws block far bs p)
      → Agrees s ws ms at p l (perform (env_of e ms) (acts w (env_of e ms) (word track bs))) (on_page_or e at (word_on s ws e at u track (length bs) p block))
  word_agrees [] n r = absurd (let k : 0 < 0 = n.some in omega arith)
  word_agrees (b ∷ bs) n r = go e.font refl
    where
      go : (k : ℕ) → e.font ≡ k
          → Agrees s ws ms at p l (perform (env_of e ms) (ready (env_of e ms) (word_in w (env_of e ms) track (b ∷ bs)) (font_of k)))
          (on_page_or e at (and_then (asked (ltb 0 k && ltb 0 e.size) 8 at) (λ z. set (suc (length bs)))))
      go zero q = on (on_page e) (λ g. rw g (refl, omega arith)) (λ g. rw g (refl, omega arith))
      go (suc f) q =
          rw (lt-ltb 0 (suc f) (omega arith))
          (on (on_page e) (λ g. rw g (on (ltb 0 e.size) (λ k. rw k (set_agrees b bs f g q k (r f q))) (λ k. rw k (refl, omega arith)))) (λ g. rw g (refl, omega arith)))

-- ---- two digits

minus_one : (f : ℕ) → suc f - 1 ≡ f
minus_one f = omega arith

module _ (s ws : List ℕ) (ms : List (List ℕ)) (at l p : ℕ) (e : Environment) (n b : ℕ) where
  -- the glyph, where h may move
  abbrev set_pair : Result Did Refusal
  set_pair = and_then (placed_or (gone origin (e.h + n)) at) (λ h. record_on (with_spot e h e.v) p 1 0)

  moved_agrees : (f : ℕ) → on_page e ≡ true → e.font ≡ suc f → ltb 0 e.size ≡ true → Agrees s ws ms at p l (run (env_of e ms) (by across n ∷ glyph (b ∷ []) ∷ [])) set_pair
  unfolding run act glyph_rows item_rows
  moved_agrees f g q k =
      on (may_move e.h n)
      (λ m. rw (g, m) (rw (g, q, k, minus_one f) (refl, refl, refl)))
      (λ m. rw (g, m) (refl, omega arith))

  pub pair_agrees : (w : Widths) → Agrees s ws ms at p l (perform (env_of e ms) (acts w (env_of e ms) (pair n b))) (on_page_or e at (pair_on e at n p))
  pair_agrees w = go e.font refl
    where
      go : (k : ℕ) → e.font ≡ k
          → Agrees s ws ms at p l (perform (env_of e ms) (ready (env_of e ms) (λ f. these (by across n ∷ glyph (b ∷ []) ∷ [])) (font_of k)))
          (on_page_or e at (and_then (asked (ltb 0 k && ltb 0 e.size) 8 at) (λ z. set_pair)))
      go zero q = on (on_page e) (λ g. rw g (refl, omega arith)) (λ g. rw g (refl, omega arith))
      go (suc f) q =
          rw (lt-ltb 0 (suc f) (omega arith))
          (on (on_page e) (λ g. rw g (on (ltb 0 e.size) (λ k. rw k (moved_agrees f g q k)) (λ k. rw k (refl, omega arith)))) (λ g. rw g (refl, omega arith)))

-- ---- every command

-- one act is run as it stands
one_run : (x : Step) → then x (λ e. went e [] []) ≡ x
one_run (refused n) = refl
one_run (went e gs is) = rw (append-nil gs, append-nil is)

abbrev pub mounts_after_cmd : Cmd → List (List ℕ) → List (List ℕ)
mounts_after_cmd (just a) ms = mounts_after a ms
mounts_after_cmd (word n bs) ms = ms
mounts_after_cmd (pair n b) ms = ms

-- what is known of the mounts where a command asks for them: at the position of an `f`, and at the current font for a word
abbrev pub MountsOf : Widths → List ℕ → List ℕ → List (List ℕ) → Environment → ℕ → ℕ → ℕ → Cmd → Type 0
MountsOf w s ws ms e p m block (just a) = MountOf ms m a
MountsOf w s ws ms e p m block (word n bs) =
    (f : ℕ) → e.font ≡ suc f → Reads w.fonts (mounted_at f ms) s ws block (λ x. advance x e.size w.unitwidth e.quantum + n) bs p
MountsOf w s ws ms e p m block (pair n b) = Unit {0}

-- what is done for a word, where the command is one
abbrev pub WordFor : List ℕ → List ℕ → ℕ → Environment → ℕ → ℕ → ℕ → Result Did Refusal → Cmd → Type 0
WordFor s ws u e at p block wd (just a) = Unit {0}
WordFor s ws u e at p block wd (word n bs) = wd ≡ word_on s ws e at u n (length bs) p block
WordFor s ws u e at p block wd (pair n b) = Unit {0}

pub command_agrees : (w : Widths) (s ws : List ℕ) (ms : List (List ℕ)) (at l p m block u : ℕ) (e : Environment) (wd : Result Did Refusal) → u ≡ w.unitwidth → Placed e
    → (c : Cmd) → ShapedCmd c → MountsOf w s ws ms e p m block c → WordFor s ws u e at p block wd c
    → Agrees s ws (mounts_after_cmd c ms) at p l (perform (env_of e ms) (acts w (env_of e ms) c)) (did_of e at m wd (cmd_of p (at + l) c))
unfolding run
command_agrees w s ws ms at l p m block u e wd q z (just a) g k h = rw (one_run (act (env_of e ms) a)) (act_agrees s ws ms at l p e wd z a g m k)
command_agrees w s ws ms at l p m block u e wd q z (word n bs) g k h = rw h (word_agrees w s ws ms at l p e n block u q z bs g k)
command_agrees w s ws ms at l p m block u e wd q z (pair n b) g k h = pair_agrees s ws ms at l p e n b w
