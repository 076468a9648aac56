-- Each record's place is where its name stands in the command that set its glyph; each entry's is where its command stands.
use Rattle.std.specs.Prelude.{Result, if◌then◌else◌}
use Prim.Native.Nat.{ℕ, suc, ◌+◌, ◌-◌, ◌≤◌}
use native.Mathlib.Omega.{arith}
use mathlib.Core.Bool.{true}
use mathlib.Core.List.{List, [], ◌∷◌, ◌++◌, map, map-map, map-append}
use mathlib.Core.Path.{◌≡◌, refl, sym, ap, ap₂, subst, ◌∙◌}
use lib.ListN.{length, take, drop, length-map}
use borrow.Author.Tests.{ne_eqb}
use Rattle.rules.specs.declared.Record.{Record}
use Rattle.rules.specs.declared.Entry.{Entry}
use Rattle.rules.specs.declared.Reading.{Reading}
use Rattle.rules.specs.declared.Refusal.{Refusal}
use Rattle.rules.specs.Bytes.{bytes, one_line}
use Rattle.rules.specs.Act.{Cmd, just, word, pair}
use Rattle.rules.specs.Scan.{commands}
use Rattle.rules.specs.Widths.{Widths}
use Rattle.rules.specs.State.{Env, start, Glyph, Item, Step, refused, went, act, run, acts, perform, stopped}
use Rattle.rules.specs.Record.{GlyphRow, ItemRow, name_place, glyph_rows, item_rows, Answer, refuse, answer, after_rows, go_on, follow, record_of, entry_of}
use Rattle.rules.specs.Find.{Key, key}
use Rattle.rules.specs.Answers.{read, is_accepted}
use Rattle.rules.specs.Calls.{ReadCall}
use Rattle.laws.proofs.Cases.{on, no}
use Rattle.laws_read.specs.Outline.{Sign, named_sign, index_sign, gap_sign, page_sign, signs_of, keys_from}
use Rattle.laws_read.proofs.Alike.{ShownBy, shown_keys, step_shown}
use Rattle.laws_find.proofs.Written.{white_true, not-white_false}
use Rattle.laws_scan.proofs.Bounds.{command-within}
use Rattle.laws_scan.proofs.Walk.{commands-drop}
use Rattle.laws_motion.specs.Records.{letters, is_some}
use Rattle.laws_motion.proofs.Steps.{After, then_after}
use Rattle.laws_motion.proofs.Held.{entered_holds}
use Rattle.laws_offsets.proofs.Places.{Quiet, word_enters_none, pair_enters_none}
use Rattle.laws_answers.proofs.Theorems.{read-follow}
use Rattle.demands.specs.Demands.{SoundList, ConsistsOf, ended, white, comment, one, Allowed, stand_from, names_of, name_places, Stretch, stretch, is_entered, entry_places}
use Rattle.demands.proofs.Allowed.{comment-skipped, ReadsTo, inputs, allowed_reads, allowed_accepted}
use Rattle.demands.proofs.ReadCalls.{take_over, Rows, counts, items_count, allowed_call}

-- ---- one command

abbrev names_in : List Key → List (List ℕ)
names_in ks = map (λ (k : Key). k.name) ks

-- names go by the signs, whatever page and gap mark they come behind
names_any : (ms : List Sign) (o g o₂ g₂ : ℕ) → names_in (keys_from o g ms) ≡ names_in (keys_from o₂ g₂ ms)
unfolding keys_from
names_any [] o g o₂ g₂ = refl
names_any (named_sign n ∷ ms) o g o₂ g₂ = ap (λ (l : List (List ℕ)). n ∷ l) (names_any ms o 0 o₂ 0)
names_any (index_sign i ∷ ms) o g o₂ g₂ = ap (λ (l : List (List ℕ)). [] ∷ l) (names_any ms o 0 o₂ 0)
names_any (gap_sign ∷ ms) o g o₂ g₂ = names_any ms o 1 o₂ 1
names_any (page_sign ∷ ms) o g o₂ g₂ = names_any ms (o + 1) 1 (o₂ + 1) 1

abbrev places_of : List GlyphRow → List ℕ
places_of rs = map (λ (r : GlyphRow). r.place) rs

rows_placed : (gs : List Glyph) (a : ℕ) → places_of (glyph_rows a gs) ≡ stand_from a (names_in (map key gs))
unfolding glyph_rows
rows_placed [] a = refl
rows_placed (g ∷ gs) a = by_name g.name (rows_placed gs (a + length g.name))
  where
    by_name : (n : List ℕ) → places_of (glyph_rows (a + length n) gs) ≡ stand_from (a + length n) (names_in (map key gs))
        → name_place a n ∷ places_of (glyph_rows (a + length n) gs) ≡ stand_from a (n ∷ names_in (map key gs))
    by_name [] h = let z : a + 0 ≡ a = omega arith in ap (λ (l : List ℕ). 0 ∷ l) (h ∙ ap (λ (k : ℕ). stand_from k (names_in (map key gs))) z)
    by_name (b ∷ n) h = ap (λ (l : List ℕ). a ∷ l) h

-- the entry of a command that stands at a place and has this length, if it is entered
abbrev one_stretch : Cmd → ℕ → ℕ → List Stretch
one_stretch c at l = if is_entered c then record { place = at; len = l } ∷ [] else []

abbrev stretches_of : List ItemRow → List Stretch
stretches_of ls = map (λ (x : ItemRow). record { place = x.place; len = x.len }) ls

-- "one entry for each `D` or `x` command"
abbrev EnteredAt : Cmd → ℕ → ℕ → Step → Type 0
EnteredAt c at l x = After (λ v gs xs. stretches_of (item_rows at l xs) ≡ one_stretch c at l) x

module _ (w : Widths) (e : Env) (at l : ℕ) where
  none_entered : (x : Step) → Quiet x → After (λ v gs xs. stretches_of (item_rows at l xs) ≡ []) x
  unfolding item_rows
  none_entered (refused n) h = tt
  none_entered (went v gs xs) h = rw h refl

  step_entered : (c : Cmd) → EnteredAt c at l (perform e (acts w e c))
  unfolding item_rows run
  step_entered (just a) = then_after (λ v gs xs. stretches_of (item_rows at l xs) ≡ one_stretch (just a) at l) (act e a) (λ d. run d []) (go (act e a) refl)
    where
      go : (x : Step) → act e a ≡ x → After (λ v gs xs. stretches_of (item_rows at l (xs ++ [])) ≡ one_stretch (just a) at l) x
      go (refused n) k = tt
      go (went v gs xs) k = on (is_some (bytes (letters a))) (λ b. rw (b, (entered_holds.one e v gs xs a b k).only) refl) (λ b. rw (b, entered_holds.no_other e v gs xs a b k) refl)
  step_entered (word n ps) = none_entered (perform e (acts w e (word n ps))) (word_enters_none w e n ps)
  step_entered (pair n b) = none_entered (perform e (acts w e (pair n b))) (pair_enters_none w e n b)

-- ---- all commands

abbrev places_in : Answer → List ℕ
places_in (refuse n at) = []
places_in (answer rs ls e) = places_of rs

abbrev stretches_in : Answer → List Stretch
stretches_in (refuse n at) = []
stretches_in (answer rs ls e) = stretches_of ls

accepted_behind : (rs : List GlyphRow) (ls : List ItemRow) (x : Answer) → is_accepted (after_rows rs ls x) ≡ true → is_accepted x ≡ true
accepted_behind rs ls (refuse n at) h = h
accepted_behind rs ls (answer rs' ls' e) h = refl

places_after : (rs : List GlyphRow) (ls : List ItemRow) (x : Answer) → is_accepted x ≡ true
    → (places_in (after_rows rs ls x) ≡ places_of rs ++ places_in x) × (stretches_in (after_rows rs ls x) ≡ stretches_of ls ++ stretches_in x)
places_after rs ls (refuse n at) h = no h
places_after rs ls (answer rs' ls' e) h = (map-append (λ (r : GlyphRow). r.place) rs rs', map-append (λ (x : ItemRow). record { place = x.place; len = x.len }) ls ls')

-- what is answered has these places of names and of entries
abbrev In : Answer → List ℕ → List Stretch → Type 0
In x ns ss = (places_in x ≡ ns) × (stretches_in x ≡ ss)

module _ (w : Widths) where
  follow_places : (s : List ℕ) (cs : List Cmd) (c : ConsistsOf s cs) (at : ℕ) (e : Env) → is_accepted (follow w e (commands at 0 s)) ≡ true
      → In (follow w e (commands at 0 s)) (name_places s cs c at) (entry_places s cs c at)
  unfolding commands follow name_places entry_places
  follow_places s cs ended at e h = on (stopped e) (λ k. rw k (refl, refl)) (λ k. no (rw k at h))
  follow_places s cs (white b r cs' p c) at e h = rw (white_true b p) (follow_places r cs' c (at + 1) e (rw (white_true b p) at h))
  follow_places s cs (comment k r cs' n p c) at e h =
      let f : commands (at + 1) (one_line (k ++ r)) (k ++ r) ≡ commands (at + 1 + length k) 0 r = comment-skipped k r (at + 1) n p in
      rw f (follow_places r cs' c (at + 1 + length k) e (rw f at h))
  follow_places s cs (one b r d a l cs' p q f c) at e h =
      let z : (1 ≤ l) × (l ≤ suc (length r)) × (a ≤ l) = command-within b r d a l f in
      let i : at + 1 + (l - 1) ≡ at + l = omega (arith, z) in
      let k : commands (at + 1) (l - 1) r ≡ commands (at + l) 0 (drop (l - 1) r) = commands-drop (l - 1) (at + 1) r (omega (arith, z)) ∙ ap (λ (j : ℕ). commands j 0 (drop (l - 1) r)) i in
      rw (not-white_false b p, ne_eqb b 35 q, f, k) (go (perform e (acts w e d)) (step_shown w e d) (step_entered w e at l d) (λ v g. follow_places (drop (l - 1) r) cs' c (at + l) v g) (rw (not-white_false b p, ne_eqb b 35 q, f, k) at h))
    where
      go : (x : Step) → ShownBy e (signs_of d) x → EnteredAt d at l x
          → ((v : Env) → is_accepted (follow w v (commands (at + l) 0 (drop (l - 1) r))) ≡ true → In (follow w v (commands (at + l) 0 (drop (l - 1) r))) (name_places (drop (l - 1) r) cs' c (at + l)) (entry_places (drop (l - 1) r) cs' c (at + l)))
          → is_accepted (go_on at (at + a) l (λ v. follow w v (commands (at + l) 0 (drop (l - 1) r))) x) ≡ true
          → In (go_on at (at + a) l (λ v. follow w v (commands (at + l) 0 (drop (l - 1) r))) x) (stand_from (at + a) (names_of d) ++ name_places (drop (l - 1) r) cs' c (at + l)) (one_stretch d at l ++ entry_places (drop (l - 1) r) cs' c (at + l))
      go (refused n) t u more h = no h
      go (went v gs xs) t u more h =
          let rest : Answer = follow w v (commands (at + l) 0 (drop (l - 1) r)) in
          let g : is_accepted rest ≡ true = accepted_behind (glyph_rows (at + a) gs) (item_rows at l xs) rest h in
          let names : names_in (map key gs) ≡ names_of d = ap names_in (shown_keys e (signs_of d) v gs xs t) ∙ names_any (signs_of d) e.ordinal e.gap 0 0 in (
            (places_after (glyph_rows (at + a) gs) (item_rows at l xs) rest g).0
                ∙ ap₂ (λ (x y : List ℕ). x ++ y) (rows_placed gs (at + a) ∙ ap (stand_from (at + a)) names) (more v g).0,
            (places_after (glyph_rows (at + a) gs) (item_rows at l xs) rest g).1 ∙ ap₂ (λ (x y : List Stretch). x ++ y) u (more v g).1,
          )

-- ---- a call

module _ (s list : List ℕ) (rs : List Record) (es : List Entry) (r : Result Reading Refusal) (rs' : List Record) (es' : List Entry) (c : ReadCall s list rs es r rs' es')
    (w : Widths) (end : Env) (gs : List Glyph) (xs : List Item) (l : SoundList list w) (a : Allowed s w end gs xs) (p : length gs ≤ length rs) (q : length xs ≤ length es) where
  abbrev to : ReadsTo s list end gs xs
  to = allowed_reads s list end gs xs w l a

  abbrev rows : Rows s list rs es r rs' es' c
  rows = allowed_call s list rs es r rs' es' c w end gs xs l a p q

  in_place : In (answer to.rows to.items end) (name_places s a.commands a.consists 0) (entry_places s a.commands a.consists 0)
  in_place =
      let f : read s list ≡ follow w start (commands 0 0 s) = read-follow s list (inputs s list end gs xs w l a) in
      subst (λ (x : Answer). In x (name_places s a.commands a.consists 0) (entry_places s a.commands a.consists 0)) (sym f ∙ to.read_is)
      (follow_places w s a.commands a.consists 0 start (sym (ap is_accepted f) ∙ allowed_accepted s list end gs xs w l a))

  pub names_in_place : map (λ (k : Record). k.place) (take (length gs) rs') ≡ name_places s a.commands a.consists 0
  names_in_place =
      let n : length gs ≡ length (map record_of to.rows) = sym (counts s list rs es r rs' es' c w end gs xs l a) ∙ sym (length-map to.rows record_of) in
      ap (map (λ (k : Record). k.place)) (take_over (length gs) (map record_of to.rows) rs rs' n rows.records)
      ∙ map-map (λ (k : Record). k.place) record_of to.rows
      ∙ in_place.0

  pub entries_in_place : map stretch (take (length xs) es') ≡ entry_places s a.commands a.consists 0
  entries_in_place =
      let n : length xs ≡ length (map entry_of to.items) = sym (items_count s list rs es r rs' es' c w end gs xs l a) ∙ sym (length-map to.items entry_of) in
      ap (map stretch) (take_over (length xs) (map entry_of to.items) es es' n rows.entries)
      ∙ map-map stretch entry_of to.items
      ∙ in_place.1
