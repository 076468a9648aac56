-- What 01 allows is what the rules read: `Allowed` and `read` say the same.
use Prim.Native.Nat.{ℕ, zero, suc, ◌+◌, ◌-◌, ◌≤◌}
use native.Mathlib.Omega.{arith}
use mathlib.Core.Bool.{true, false}
use mathlib.Core.List.{List, [], ◌∷◌, ◌++◌, map}
use mathlib.Core.Path.{◌≡◌, refl, sym, ap, subst, ◌∙◌}
use lib.ListN.{length, take, drop, length-append, take-append-drop}
use borrow.Author.Tests.{ltb-false, le-ltb, eqb-true, eq-eqb, ne_eqb}
use lib.Seq.{drop-append_seam}
use Rattle.rules.specs.Bytes.{is, is_white, is_not_newline, one_line}
use Rattle.rules.specs.Act.{Cmd}
use Rattle.rules.specs.Scan.{Scan, got, bad, command, one_command, commands, bare}
use Rattle.rules.specs.Widths.{Widths}
use Rattle.rules.specs.State.{Env, Glyph, Item, Step, refused, went, start, steps}
use Rattle.rules.specs.Record.{GlyphRow, ItemRow, Answer, refuse, answer, follow, seen}
use Rattle.rules.specs.Answers.{stream_most, read, is_accepted}
use Rattle.laws.proofs.Cases.{on, no, All, Stops, span_all, all_span, drop-span}
use Rattle.laws.proofs.Good.{Ended}
use Rattle.laws_find.proofs.Written.{white_true, true_white, false_not-white, not-white_false}
use Rattle.laws_scan.proofs.Bounds.{span_le, command-within}
use Rattle.laws_scan.proofs.Walk.{commands-drop}
use Rattle.laws_read.proofs.Placed.{finish, finish_well, seen-follow, did_go, ended as Ended_of}
use Rattle.laws_answers.specs.Statements.{cmds_of}
use Rattle.laws_answers.specs.Statements as T
use Rattle.laws_answers.proofs.Theorems.{SoundInputs, sound_of, read-follow, read_says, all_well}
use Rattle.laws_read.proofs.Runs.{well}
use Rattle.laws_offsets.specs.Groups.{NoNewline}
use Rattle.demands.specs.Demands.{LineBreak, SoundList, ConsistsOf, ended, white, comment, one, Allowed}

-- ---- the commands that a stream consists of are those that are read

-- a comment is as long as the rules have it
line_all : (k : List ℕ) → NoNewline k → All is_not_newline k
line_all [] h = tt
line_all (b ∷ k) h = (rw (ne_eqb b 10 h.0), line_all k h.1)

line_stops : (r : List ℕ) → LineBreak r → Stops is_not_newline r
line_stops [] h = tt
line_stops (b ∷ r) h = rw h

pub comment-skipped : (k r : List ℕ) (at : ℕ) → NoNewline k → LineBreak r → commands at (one_line (k ++ r)) (k ++ r) ≡ commands (at + length k) 0 r
comment-skipped k r at n h =
    rw (span_all is_not_newline k r (line_all k n) (line_stops r h))
    (commands-drop (length k) at (k ++ r) (rw length-append (omega arith)) ∙ ap (commands (at + length k) 0) (drop-append_seam k r))

all_line : (k : List ℕ) → All is_not_newline k → NoNewline k
all_line [] h = tt
all_line (b ∷ k) h = (λ e. no (rw e at h.0), all_line k h.1)

stops_line : (r : List ℕ) → Stops is_not_newline r → LineBreak r
stops_line [] h = tt
stops_line (b ∷ r) h = eqb-true b 10 (on (is "\n" b) (λ k. k) (λ k. no (sym (rw k at h))))

comment_at : (b : ℕ) (r : List ℕ) (cs : List Cmd) → is "#" b ≡ true → ConsistsOf (drop (one_line r) r) cs → ConsistsOf (b ∷ r) cs
comment_at b r cs h c =
    subst (λ (l : List ℕ). ConsistsOf (b ∷ l) cs) (take-append-drop (one_line r) r)
    (subst (λ (x : ℕ). ConsistsOf (x ∷ (take (one_line r) r ++ drop (one_line r) r)) cs) (sym (eqb-true b 35 h))
    (comment (take (one_line r) r) (drop (one_line r) r) cs (all_line (take (one_line r) r) (all_span is_not_newline r)) (stops_line (drop (one_line r) r) (drop-span is_not_newline r)) c))

abbrev Reads : List ℕ → List Cmd → ℕ → Type 0
Reads s cs at = Ended (commands at 0 s) × (bare (commands at 0 s) ≡ cs)

pub consists_read : (s : List ℕ) (cs : List Cmd) → ConsistsOf s cs → (at : ℕ) → Reads s cs at
unfolding commands
consists_read s cs ended at = (tt, refl)
consists_read s cs (white b r cs' h c) at = rw (white_true b h) (consists_read r cs' c (at + 1))
consists_read s cs (comment k r cs' n h c) at = rw (comment-skipped k r (at + 1) n h) (consists_read r cs' c (at + 1 + length k))
consists_read s cs (one b r d a l cs' w h e c) at =
    let z : (1 ≤ l) × (l ≤ suc (length r)) × (a ≤ l) = command-within b r d a l e in
    let y : Reads (drop (l - 1) r) cs' (at + 1 + (l - 1)) = consists_read (drop (l - 1) r) cs' c (at + 1 + (l - 1)) in
    rw (not-white_false b w, ne_eqb b 35 h, e, commands-drop (l - 1) (at + 1) r (omega (arith, z))) (y.0, ap (λ (k : List Cmd). d ∷ k) y.1)

read_consists : (s : List ℕ) (at k : ℕ) → k ≤ length s → Ended (commands at k s) → ConsistsOf (drop k s) (bare (commands at k s))
unfolding commands
read_consists [] at zero l h = ended
read_consists [] at (suc k) l h = absurd (omega arith)
read_consists (b ∷ r) at (suc k) l h = read_consists r (at + 1) k (omega arith) h
read_consists (b ∷ r) at zero l h =
    on (is_white b) (λ w. rw w (white b r (bare (commands (at + 1) 0 r)) (true_white b w) (read_consists r (at + 1) 0 (omega arith) (rw w at h))))
    (λ w. on (is "#" b)
    (λ p. rw (w, p) (comment_at b r (bare (commands (at + 1) (one_line r) r)) p (read_consists r (at + 1) (one_line r) (span_le is_not_newline r) (rw (w, p) at h))))
    (λ p. rw (w, p) (go w p (λ j m g. read_consists r (at + 1) j m g) (command b r) refl (rw (w, p) at h))))
  where
    go : is_white b ≡ false → is "#" b ≡ false → ((j : ℕ) → j ≤ length r → Ended (commands (at + 1) j r) → ConsistsOf (drop j r) (bare (commands (at + 1) j r))) → (x : Scan) → command b r ≡ x → Ended (one_command at (λ j. commands (at + 1) j r) x) → ConsistsOf (b ∷ r) (bare (one_command at (λ j. commands (at + 1) j r) x))
    go w p f (bad n j) e g = absurd g
    go w p f (got c a j) e g =
        let z : (1 ≤ j) × (j ≤ suc (length r)) × (a ≤ j) = command-within b r c a j e in
        one b r c a j (bare (commands (at + 1) (j - 1) r)) (false_not-white b w) (λ q. no (sym p ∙ eq-eqb b 35 q)) e (f (j - 1) (omega (arith, z)) g)

-- ---- what is allowed is read

-- the rules read these glyphs, drawings and controls, and end there
pub record ReadsTo (s list : List ℕ) (end : Env) (gs : List Glyph) (xs : List Item) : Type 0 where
  pub rows : List GlyphRow
  pub items : List ItemRow
  pub read_is : read s list ≡ answer rows items end
  pub glyphs_are : map (λ (r : GlyphRow). r.glyph) rows ≡ gs
  pub items_are : map (λ (x : ItemRow). x.item) items ≡ xs

abbrev env_of : Env → Step → Env
env_of d (refused n) = d
env_of d (went e gs xs) = e

abbrev glyphs_of : Step → List Glyph
glyphs_of (refused n) = []
glyphs_of (went e gs xs) = gs

abbrev items_of : Step → List Item
items_of (refused n) = []
items_of (went e gs xs) = xs

module _ (s list : List ℕ) (end : Env) (gs : List Glyph) (xs : List Item) where
  pub reads_to : (x : Answer) → read s list ≡ x → seen x ≡ went end gs xs → ReadsTo s list end gs xs
  reads_to (refuse n at) h e = no (ap did_go e)
  reads_to (answer rows items d) h e = record {
    rows = rows;
    items = items;
    read_is = h ∙ ap (answer rows items) (ap (env_of d) e);
    glyphs_are = ap glyphs_of e;
    items_are = ap items_of e;
  }

  module _ (w : Widths) (l : SoundList list w) (a : Allowed s w end gs xs) where
    abbrev pub inputs : SoundInputs s list
    inputs = record { widths = w; list_sound = l.says; stream_short = le-ltb stream_most (length s) a.short; list_short = le-ltb 65_536 (length list) l.short }

    pub commands_are : cmds_of s ≡ a.commands
    commands_are = (consists_read s a.commands a.consists 0).1

    follows : seen (follow w start (commands 0 0 s)) ≡ went end gs xs
    follows =
        seen-follow w (commands 0 0 s) start (consists_read s a.commands a.consists 0).0
        ∙ ap (λ (cs : List Cmd). finish (steps w start cs)) commands_are
        ∙ ap finish a.performed
        ∙ finish_well (went end gs xs) a.ended

    pub allowed_reads : ReadsTo s list end gs xs
    allowed_reads = reads_to (read s list) refl (ap seen (read-follow s list inputs) ∙ follows)

    pub allowed_accepted : T.Accepted s list
    allowed_accepted = ap is_accepted allowed_reads.read_is

-- ---- what is read is allowed

pub record Stream (s list : List ℕ) (end : Env) (gs : List Glyph) (xs : List Item) : Type 0 where
  pub widths : Widths
  pub list_sound : SoundList list widths
  pub allowed : Allowed s widths end gs xs
  pub commands_of : allowed.commands ≡ cmds_of s

module _ (s list : List ℕ) (rows : List GlyphRow) (items : List ItemRow) (e : Env) (h : read s list ≡ answer rows items e) where
  pub read_allowed : Stream s list e (map (λ (r : GlyphRow). r.glyph) rows) (map (λ (x : ItemRow). x.item) items)
  read_allowed = go (sound_of s list (ap is_accepted h))
    where
      go : SoundInputs s list → Stream s list e (map (λ (r : GlyphRow). r.glyph) rows) (map (λ (x : ItemRow). x.item) items)
      go z =
          let accepted : T.Accepted s list = ap is_accepted h in
          let steps_are : steps z.widths start (cmds_of s) ≡ went e (map (λ (r : GlyphRow). r.glyph) rows) (map (λ (x : ItemRow). x.item) items) = sym (read_says s list z accepted) ∙ ap seen h in
          let at_end : is_accepted (follow z.widths start (commands 0 0 s)) ≡ true = rw (read-follow s list z) at accepted in
          record {
            widths = z.widths;
            list_sound = record { short = ltb-false 65_536 (length list) z.list_short; says = z.list_sound };
            allowed = record {
              short = ltb-false stream_most (length s) z.stream_short;
              commands = cmds_of s;
              consists = read_consists s 0 0 (omega arith) (Ended_of z.widths (commands 0 0 s) start at_end);
              performed = steps_are;
              ended = subst (λ (x : Step). well x ≡ true) steps_are (all_well s list z accepted);
            };
            commands_of = refl;
          }
