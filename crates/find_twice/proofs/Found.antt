-- Two passes and a search answer what the rules answer: what each of them asks, and what is answered at each end.
use Rattle.std.specs.Prelude.{Result, Ok, Err, if◌then◌else◌}
use Prim.Native.Nat.{ℕ, suc, ◌+◌, ◌<◌, ◌≤◌}
use native.Mathlib.Omega.{arith}
use mathlib.Core.Bool.{Bool, true, false, ◌||◌}
use mathlib.Core.List.{List, [], ◌∷◌, map}
use mathlib.Core.Logic.{◌⊎◌, inl, inr}
use mathlib.Core.Path.{◌≡◌, refl, sym, ap, ap₂, subst, ◌∙◌}
use lib.Dec.{ltb, eqb}
use lib.ListN.{length, take, drop}
use borrow.Author.Tests.{ne_eqb, le-ltb, ltb-false}
use Rattle.rules.specs.declared.Refusal.{Refusal}
use Rattle.rules.specs.declared.Record.{Record}
use Rattle.rules.specs.declared.Finding.{Finding}
use Rattle.rules.specs.declared.Entry.{Entry}
use Rattle.rules.specs.Scan.{commands}
use Rattle.rules.specs.State.{Env, start}
use Rattle.rules.specs.Widths.{WidthList, unsound, sound, width_list}
use Rattle.rules.specs.Record.{GlyphRow, ItemRow, Answer, refuse, answer, follow, record_of, over}
use Rattle.rules.specs.Families.{Family, FamilyList, ill_grouped, grouped, family_list}
use Rattle.rules.specs.Find.{Wanted, sought, Query, ill_formed, well_formed, query, Key, hits_from}
use Rattle.rules.specs.Answers.{stream_most, is_over, refusal, read, Found, not_found, found, hits_in, find_grouped, find_with, find, find_into, key_of as key_of_row}
use Rattle.rules.specs.Calls.{FindCall}
use Rattle.laws.proofs.Cases.{on, no as impossible, or_true, take_front}
use Rattle.laws_scan.proofs.Names.{RowIn, AllRows, RowsOf, names_stand}
use Rattle.laws_find.proofs.Exact.{sought-length}
use Rattle.laws_answers.proofs.Theorems.{keys_in, keys_by_outline}
use Rattle.read_model.specs.declared.State.{State}
use Rattle.read_model.specs.Passes.{ReadPass, read_pass_of}
use Rattle.read_model.proofs.Passes.{Refused, Accepted, Ended, length-map}
use Rattle.read_model.proofs.Rows.{over_is}
use Rattle.read_turn.specs.Ready.{find_in, Scratch}
use Rattle.read_pass.specs.Ready.{PassReady}
use Rattle.read_pass.proofs.Known.{Known, pass_known}
use Rattle.read_setup.specs.Setup.{Unmounted, begin_of, refused_at, again_of, StartedWith, StartedOr, Started, AreBytes}
use Rattle.read_twice.proofs.Twice.{pass_from, not_over, first-sound, On, filling-sound, begun, on_ends, kept_records, judged_count, judged_number, refill, refilled}
use Rattle.families_table.specs.declared.Table.{Table}
use Rattle.find_match.specs.declared.Sought.{Sought}
use Rattle.find_match.specs.declared.Question.{Question}
use Rattle.find_match.specs.Match.{key_in, record_key, sought_by, glyphs_of}
use Rattle.find_outline.specs.Move.{standing}
use Rattle.find_keys.specs.Keys.{keys_at}
use Rattle.find_keys.proofs.Outlines.{all_keys}
use Rattle.find_keys.proofs.Hits.{hits_few}
use Rattle.find_compare.specs.declared.Progress.{Progress}
use Rattle.find_compare.specs.Compare.{left_at}
use Rattle.find_search.specs.Search.{Looked, search_of, SearchReady, SearchReadyOrDone}
use Rattle.find_search.proofs.Looking.{ready_or_done}
use Rattle.find_exact.proofs.Exact.{search_exact}
use Rattle.find_ask.specs.Ask.{sizes_of, AsksWith, AsksIn, AsksOr, AsksFor}
use Rattle.find_ask.proofs.Asking.{in_sizes}
use Rattle.find_room.specs.Room.{hits_counted, too_many, room_of}
use Rattle.find_setup.specs.Setup.{begun_of, Begun, find_next_of, fresh_of, progress_of}
use Rattle.find_twice.proofs.Within.{pass_held}

-- ---- an answer or a refusal

module _ {A : Type 0} where
  err_is : (r k : Refusal) → ◌≡◌ {A = Result A Refusal} (Err r) (Err k) → r ≡ k
  err_is r k e = cc

  ok_is : (a b : A) → ◌≡◌ {A = Result A Refusal} (Ok a) (Ok b) → a ≡ b
  ok_is a b e = cc

  not_both {ℓ} : {X : Type ℓ} (r : Refusal) (a : A) → ◌≡◌ {A = Result A Refusal} (Err r) (Ok a) → X
  not_both r a e = absurd (let f : ⊥ = cc in f)

-- ---- refused before the stream is read, or read

or_assoc : (a b c : Bool) → (a || (b || c)) ≡ ((a || b) || c)
or_assoc true b c = refl
or_assoc false b c = refl

find_is : (s list fl q : List ℕ) → find s list fl q ≡ (if (is_over stream_most s || is_over 65_536 list) || (is_over 65_536 fl || is_over 8_192 q) then not_found 1 0 else find_with s fl q (width_list list))
unfolding find
find_is s list fl q = rw (or_assoc (is_over stream_most s) (is_over 65_536 list) (is_over 65_536 fl || is_over 8_192 q))

-- a refusal leaves both rows
pub refused_call : (s list fl q : List ℕ) (rs : List Record) (hs : List ℕ) (r : Refusal) → find s list fl q ≡ not_found r.number r.offset → FindCall s list fl q rs hs (Err r) rs hs
unfolding find_into
refused_call s list fl q rs hs r e = record { answer = rw e; records = rw e; hits = rw e }

-- the sizes of the family list or the query are refused
pub sizes_refused : (s list fl q : List ℕ) (r : Refusal) → Err r ≡ sizes_of fl q → find s list fl q ≡ not_found r.number r.offset
sizes_refused s list fl q r h =
    on (is_over 65_536 fl || is_over 8_192 q)
    (λ z.
    let k : r ≡ refusal 1 0 = err_is r (refusal 1 0) (rw z at h) in
    find_is s list fl q ∙ rw (or_true (is_over stream_most s || is_over 65_536 list) (is_over 65_536 fl || is_over 8_192 q) z, k))
    (λ z. not_both r tt (rw z at h))

-- refused: the stream's or the list's size, or the list
record Off (s list fl q : List ℕ) (a : State) : Type 0 where
  number : ℕ
  offset : ℕ
  state : a ≡ refused_at number offset
  some : 0 < number
  answered : find s list fl q ≡ not_found number offset

-- the sizes and the width list are in order
pub record Listed (s list fl q : List ℕ) (a : State) (ws : List ℕ) : Type 0 where
  pub reads : On s list a ws
  pub answered : find s list fl q ≡ find_grouped s reads.widths q (family_list fl)

module _ (s list fl q : List ℕ) (u : Unit {0}) (sized : Ok u ≡ sizes_of fl q) where
  short : (is_over 65_536 fl || is_over 8_192 q) ≡ false
  short = in_sizes fl q u sized

  module _ (a : State) (ws : List ℕ) where
    with_case : (is_over stream_most s || is_over 65_536 list) ≡ false → (x : WidthList) → width_list list ≡ x → StartedWith (length s) list a ws x → Off s list fl q a ⊎ Listed s list fl q a ws
    unfolding read
    with_case z (unsound at) e h = inl (record { number = 2; offset = at; state = h.0; some = omega arith; answered = find_is s list fl q ∙ rw (z, short, e) })
    with_case z (sound w) e h = inr (record {
      reads = record { widths = w; list_is = e; state = h.0; scratch = h.1; short = not_over s list z; answered = rw (z, e) };
      answered = find_is s list fl q ∙ rw (z, short, e);
    })

    or_case : (b : Bool) → (is_over stream_most s || is_over 65_536 list) ≡ b → StartedOr b s list a ws → Off s list fl q a ⊎ Listed s list fl q a ws
    or_case true z h = inl (record { number = 1; offset = 0; state = h.0; some = omega arith; answered = find_is s list fl q ∙ rw z })
    or_case false z h = with_case z (width_list list) refl h

    started_case : Started s list a ws → Off s list fl q a ⊎ Listed s list fl q a ws
    started_case h = or_case (is_over stream_most s || is_over 65_536 list) refl h

    off_begun : (o : Off s list fl q a) → begun_of a ≡ Err (refusal o.number o.offset)
    off_begun o = rw (o.state, ne_eqb o.number 0 (λ z. let y : 0 < o.number = o.some in omega arith))

    listed_begun : Listed s list fl q a ws → begun_of a ≡ Ok a
    listed_begun l = rw l.reads.state

  -- the start refuses as the rules do
  pub start_refused : (ws : List ℕ) (r : Refusal) → Begun s list (Err r) ws → find s list fl q ≡ not_found r.number r.offset
  start_refused ws r b = go (started_case b.first ws b.started)
    where
      go : Off s list fl q b.first ⊎ Listed s list fl q b.first ws → find s list fl q ≡ not_found r.number r.offset
      go (inl o) =
          let k : r ≡ refusal o.number o.offset = err_is r (refusal o.number o.offset) (b.state ∙ off_begun b.first ws o) in
          rw k o.answered
      go (inr l) = not_both r b.first (b.state ∙ listed_begun b.first ws l)

  -- or the list is in order
  pub record Starts (a : State) (ws : List ℕ) : Type 0 where
    pub started : Started s list a ws
    pub bytes : AreBytes s
    pub listed : Listed s list fl q a ws

  start_on : (ws : List ℕ) (a : State) → Begun s list (Ok a) ws → Starts a ws
  start_on ws a b = go (started_case b.first ws b.started)
    where
      go : Off s list fl q b.first ⊎ Listed s list fl q b.first ws → Starts a ws
      go (inl o) = not_both (refusal o.number o.offset) a (sym (b.state ∙ off_begun b.first ws o))
      go (inr l) =
          let k : b.first ≡ a = sym (ok_is a b.first (b.state ∙ listed_begun b.first ws l)) in
          subst (λ (i : State). Starts i ws) k (record { started = b.started; bytes = b.bytes; listed = l })

  -- what the judging pass asks
  pub start_sound : (ws : List ℕ) (a : State) (g e : ℕ) → Begun s list (Ok a) ws → PassReady (length s) ws g e a
  start_sound ws a g e b = first-sound s list a ws g e (start_on ws a b).started

  -- the family list or the query refuses as the rules do
  module _ (a : State) (ws : List ℕ) (l : Listed s list fl q a ws) (tab : Table) (gl : List Sought) where
    asks_in : (x : Result ℕ Refusal) → AsksFor fl q x tab gl → AsksIn q fl x tab gl (family_list fl)
    asks_in x h = subst (λ (b : Bool). AsksOr b fl q x tab gl) short h

    refused_ask : (r : Refusal) → AsksFor fl q (Err r) tab gl → find s list fl q ≡ not_found r.number r.offset
    refused_ask r h = l.answered ∙ in_list (family_list fl) (asks_in (Err r) h)
      where
        told_as : (n at : ℕ) → ◌≡◌ {A = Result ℕ Refusal} (Err r) (Err (refusal n at)) → not_found n at ≡ not_found r.number r.offset
        told_as n at e = let k : r ≡ refusal n at = err_is r (refusal n at) e in rw k

        in_query : (fs : List Family) (y : Query) → query q ≡ y → AsksWith fs q fl tab (Err r) gl y → find_grouped s l.reads.widths q (grouped fs) ≡ not_found r.number r.offset
        in_query fs (ill_formed at) e k = rw e (told_as 12 at k)
        in_query fs (well_formed qs) e k = not_both r (length qs) k.0

        in_list : (y : FamilyList) → AsksIn q fl (Err r) tab gl y → find_grouped s l.reads.widths q y ≡ not_found r.number r.offset
        in_list (ill_grouped at) k = told_as 14 at k
        in_list (grouped fs) k = in_query fs (query q) refl k

    -- a query has 64 glyphs at most
    pub ask_few : (k : ℕ) → AsksFor fl q (Ok k) tab gl → k ≤ 64
    ask_few k h = in_list (family_list fl) (asks_in (Ok k) h)
      where
        in_query : (fs : List Family) (y : Query) → AsksWith fs q fl tab (Ok k) gl y → k ≤ 64
        in_query fs (ill_formed at) x = not_both (refusal 12 at) k (sym x)
        in_query fs (well_formed qs) x = let n : k ≡ length qs = ok_is k (length qs) x.0 in omega (arith, x.1.few)

        in_list : (y : FamilyList) → AsksIn q fl (Ok k) tab gl y → k ≤ 64
        in_list (ill_grouped at) x = not_both (refusal 14 at) k (sym x)
        in_list (grouped fs) x = in_query fs (query q) x

  pub ask_refused : (ws : List ℕ) (a : State) → Begun s list (Ok a) ws → (tab : Table) (gl : List Sought) (r : Refusal) → AsksFor fl q (Err r) tab gl → find s list fl q ≡ not_found r.number r.offset
  ask_refused ws a b tab gl r h = refused_ask a ws (start_on ws a b).listed tab gl r h

-- the question that is asked, in the code's own structs
pub record Poses (q fl : List ℕ) (tab : Table) (gl : List Sought) (k : ℕ) (w : Question) : Type 0 where
  pub query_is : w.query.now ≡ q
  pub families_are : w.families.now ≡ fl
  pub table_is : w.table.now ≡ tab
  pub glyphs_are : w.glyphs.now ≡ take k gl

pub posed_as : {q fl : List ℕ} (tab : Table) (gl : List Sought) (k : ℕ) (w : Question) → w.query.now ≡ q → w.families.now ≡ fl → w.table.now ≡ tab → w.glyphs.now ≡ take k gl → Poses q fl tab gl k w
posed_as tab gl k w a b c d = record { query_is = a; families_are = b; table_is = c; glyphs_are = d }

-- all is in order: the glyphs of the question are those of the query
pub record Asks (s list fl q : List ℕ) (w : Question) (k : ℕ) (a : State) (ws : List ℕ) : Type 0 where
  pub families : List Family
  pub wanted : List Wanted
  pub glyphs : glyphs_of w ≡ map (sought families) wanted
  pub count : k ≡ length wanted
  pub some : 1 ≤ length wanted
  pub few : length wanted ≤ 64
  pub started : Started s list a ws
  pub bytes : AreBytes s
  pub reads : On s list a ws
  pub answered : find s list fl q ≡ hits_in (map (sought families) wanted) (follow reads.widths start (commands 0 0 s))

module _ (s list fl q : List ℕ) (u : Unit {0}) (sized : Ok u ≡ sizes_of fl q) (a : State) (ws : List ℕ) (b : Starts s list fl q u sized a ws) (tab : Table) (gl : List Sought) (k : ℕ) (w : Question) (p : Poses q fl tab gl k w) where
  glyphs_by : glyphs_of w ≡ map (sought_by q fl tab) (take k gl)
  glyphs_by = rw (p.query_is, p.families_are, p.table_is, p.glyphs_are)

  ask_on : AsksFor fl q (Ok k) tab gl → Asks s list fl q w k a ws
  ask_on h = in_list (family_list fl) refl (asks_in s list fl q u sized a ws b.listed tab gl (Ok k) h)
    where
      in_query : (fs : List Family) → family_list fl ≡ grouped fs → (y : Query) → query q ≡ y → AsksWith fs q fl tab (Ok k) gl y → Asks s list fl q w k a ws
      in_query fs d (ill_formed at) e x = not_both (refusal 12 at) k (sym x)
      in_query fs d (well_formed qs) e x =
          let n : k ≡ length qs = ok_is k (length qs) x.0 in
          record {
            families = fs;
            wanted = qs;
            glyphs = glyphs_by ∙ ap (λ (i : ℕ). map (sought_by q fl tab) (take i gl)) n ∙ x.1.all;
            count = n;
            some = x.1.some;
            few = x.1.few;
            started = b.started;
            bytes = b.bytes;
            reads = b.listed.reads;
            answered = b.listed.answered ∙ rw (d, e);
          }

      in_list : (y : FamilyList) → family_list fl ≡ y → AsksIn q fl (Ok k) tab gl y → Asks s list fl q w k a ws
      in_list (ill_grouped at) d x = not_both (refusal 14 at) k (sym x)
      in_list (grouped fs) d x = in_query fs d (query q) refl x

-- what was answered so far
pub asks_by : (s list fl q : List ℕ) (u : Unit {0}) → Ok u ≡ sizes_of fl q → (a : State) (ws : List ℕ) → Begun s list (Ok a) ws → (tab : Table) (gl : List Sought) (k : ℕ) (w : Question) → Poses q fl tab gl k w → AsksFor fl q (Ok k) tab gl → Asks s list fl q w k a ws
asks_by s list fl q u sized a ws b tab gl k w p h = ask_on s list fl q u sized a ws (start_on s list fl q u sized ws a b) tab gl k w p h

-- ---- the names of the records, and the hits

-- a record's name stands at its place
pub seen_is : (s : List ℕ) (r : GlyphRow) → RowIn s r → key_in s (record_key (record_of r)) ≡ key_of_row r
seen_is s r h = λ i. record { name = h.stands i; gap = r.glyph.gap; ordinal = r.glyph.ordinal }

pub all_seen : (s : List ℕ) (xs : List GlyphRow) → AllRows s xs → map (λ (r : Record). key_in s (record_key r)) (map record_of xs) ≡ map key_of_row xs
all_seen s [] h = refl
all_seen s (x ∷ xs) h = ap₂ (λ (k : Key) (l : List Key). k ∷ l) (seen_is s x h.0) (all_seen s xs h.1)

pub row_seen : (s : List ℕ) (xs : List GlyphRow) (old : List Record) → AllRows s xs → map (λ (r : Record). key_in s (record_key r)) (take (length xs) (over (map record_of xs) old)) ≡ map key_of_row xs
row_seen s xs old h =
    ap (λ (n : ℕ). map (λ (r : Record). key_in s (record_key r)) (take n (over (map record_of xs) old))) (sym (length-map record_of xs))
    ∙ ap (map (λ (r : Record). key_in s (record_key r))) (take_front (map record_of xs) (drop (length (map record_of xs)) old))
    ∙ all_seen s xs h

length_over {ℓ} : {A : Type ℓ} (new old : List A) → length new ≤ length old → length (over new old) ≡ length old
length_over [] old h = refl
length_over (x ∷ new) [] h = absurd (omega arith)
length_over (x ∷ new) (y ∷ old) h = ap suc (length_over new old (omega arith))

-- what a pass begins with, where nothing refuses it
begun_is : (a c : State) → begun_of a ≡ Ok c → c ≡ a
begun_is a c h =
    on (eqb a.refusal 0)
    (λ z. sym (ok_is a c (rw z at h)))
    (λ z. not_both (refusal a.refusal a.at) c (rw z at h))

-- the room for the hits, and then the pass that fills the records
abbrev next_of : Bool → State → ℕ → ℕ → Result State Refusal
next_of too b n rmax = if too then Err (refusal 13 0) else find_next_of b n rmax

next_again : (b c : State) (n rmax : ℕ) (too : Bool) → next_of too b n rmax ≡ Ok c → c ≡ again_of b n rmax b.entries 2
next_again b c n rmax true h = not_both (refusal 13 0) c h
next_again b c n rmax false h = begun_is (again_of b n rmax b.entries 2) c h

-- ---- the two passes

-- the records are in their row, and there is room for the hits
pub record Done (s list fl q : List ℕ) (w : Question) (rs : List Record) (hs : List ℕ) (p₂ : ReadPass) : Type 0 where
  pub glyphs : List GlyphRow
  pub clear : p₂.state.refusal ≡ 0
  pub count : p₂.state.records ≡ length glyphs
  pub records : p₂.records ≡ over (map record_of glyphs) rs
  pub fit : length glyphs ≤ length rs
  pub few : length glyphs ≤ 16777216
  pub stand : AllRows s glyphs
  pub room : length (hits_from (glyphs_of w) 0 (map key_of_row glyphs)) ≤ length hs
  pub answered : find_into (length rs) (length hs) s list fl q ≡ found glyphs (hits_from (glyphs_of w) 0 (map key_of_row glyphs))

module _ (s list fl q : List ℕ) (w : Question) (k : ℕ) (a : State) (ws₁ : List ℕ) (o : Asks s list fl q w k a ws₁) (rs : List Record) (es : List Entry) (hs : List ℕ) where
  -- what the judging pass asks
  start-sound : (g e : ℕ) → PassReady (length s) ws₁ g e a
  start-sound g e = first-sound s list a ws₁ g e o.started

  module _ (p : ReadPass) (is : p ≡ read_pass_of (find_in list a.fonts ws₁) s (pass_from a ws₁ rs es)) where
    -- what it leaves
    pub left_scratch : Scratch p.scratch
    left_scratch = (subst (Known list s (pass_from a ws₁ rs es) 0) (sym is) (pass_known list s (pass_from a ws₁ rs es) (start-sound (length rs) (length es)))).scratch

    -- what the counting asks
    pub count_sound : p.state.refusal ≡ 0 → length s ≤ 16777216
    count_sound z = o.reads.short

    kept : p.records ≡ rs
    kept = kept_records s list rs es a ws₁ o.started p is o.bytes o.reads

    abbrev said : Answer
    said = follow o.reads.widths start (commands 0 0 s)

    abbrev first : ReadPass
    first = pass_from (begun s list rs es a ws₁ o.started p is o.bytes o.reads) ws₁ rs es

    abbrev hits : List GlyphRow → List ℕ
    hits xs = hits_from (glyphs_of w) 0 (map key_of_row xs)

    abbrev too : Bool
    too = too_many s w p.state (length hs)

    module _ (x : Result State Refusal) (next : x ≡ next_of too p.state (length s) (length rs)) where
      abbrev told : Found
      told = find_into (length rs) (length hs) s list fl q

      told-refused : (n at : ℕ) → find s list fl q ≡ not_found n at → told ≡ not_found n at
      unfolding find_into
      told-refused n at e = rw e

      -- it is refused; or the second pass fills the rows
      record Halt : Type 0 where
        number : ℕ
        offset : ℕ
        refused : x ≡ Err (refusal number offset)
        answered : told ≡ not_found number offset

      record Fill : Type 0 where
        xs : List GlyphRow
        zs : List ItemRow
        env : Env
        said_is : said ≡ answer xs zs env
        went : Accepted xs zs env first p
        roomy : ltb (length rs) (length xs) ≡ false
        held : ltb (length hs) (length (hits xs)) ≡ false

      -- by whether the hits have room, and where the second pass begins
      next_by : (b : Bool) (y : State) → too ≡ b → again_of p.state (length s) (length rs) p.state.entries 2 ≡ y → x ≡ (if b then Err (refusal 13 0) else begun_of y)
      next_by b y t e = next ∙ ap₂ (λ (i : Bool) (j : State). if i then Err (refusal 13 0) else begun_of j) t e

      -- the judging pass ended with a refusal
      pass_refused : (n j : ℕ) → Refused n j p.state → x ≡ Err (refusal n j)
      pass_refused n j (inl (r, z, e)) =
          let y : eqb n 0 ≡ false = ne_eqb n 0 (λ i. omega arith) in
          next_by false (refused_at n j) (rw (r, y)) (rw (r, e, y)) ∙ rw y
      pass_refused n j (inr (f, r, e, y)) = next_by false (refused_at n j) (rw (r, y)) (rw (r, y, e, f)) ∙ rw f

      -- it accepted
      module _ (xs : List GlyphRow) (zs : List ItemRow) (d : Env) (said_is : said ≡ answer xs zs d) (g : Accepted xs zs d first p) where
        count_is : p.state.records ≡ length xs
        count_is = judged_count s list rs es a ws₁ o.started p is o.bytes o.reads xs zs d said_is g

        number_is : p.state.entries ≡ length zs
        number_is = judged_number s list rs es a ws₁ o.started p is o.bytes o.reads xs zs d said_is g

        read_is : read s list ≡ answer xs zs d
        read_is = o.reads.answered ∙ said_is

        -- a stream has no more records than bytes
        few_records : length xs ≤ 16777216
        few_records =
            let b : p.state.records ≤ length s = subst (λ (i : ReadPass). i.state.records ≤ length s) (sym is)
            (pass_held (length s) a.left (find_in list a.fonts ws₁) s (pass_from a ws₁ rs es) (rw o.reads.state (omega arith)) (rw o.reads.state)).0 in
            omega (arith, b, count_is, o.reads.short)

        -- the outline has the keys of the records
        keys_are : map (key_in s) (keys_at s (standing 0 0 0)) ≡ map key_of_row xs
        keys_are = all_keys s o.reads.short ∙ sym (keys_by_outline s list (rw read_is)) ∙ ap keys_in read_is

        counted_is : hits_counted s w ≡ length (hits xs)
        counted_is = rw keys_are

        too_is : too ≡ ltb (length hs) (length (hits xs))
        too_is =
            on (ltb (length hs) (length xs))
            (λ z. rw (g.clear, g.stopped, count_is, z, counted_is))
            (λ z.
            let l : length xs ≤ length hs = ltb-false (length hs) (length xs) z in
            let f : length (hits xs) ≤ length (map key_of_row xs) = hits_few (glyphs_of w) 0 (map key_of_row xs) in
            rw (g.clear, g.stopped, count_is, z) (sym (le-ltb (length hs) (length (hits xs)) (omega (arith, length-map key_of_row xs)))))

        told_is : told ≡ (if ltb (length rs) (length xs) || ltb (length hs) (length (hits xs)) then not_found 13 0 else found xs (hits xs))
        unfolding find_into
        told_is = rw (o.answered, said_is, ← o.glyphs)

        accepted : Halt ⊎ Fill
        accepted =
            on (ltb (length hs) (length (hits xs)))
            (λ z. inl (record { number = 13; offset = 0; refused = next_by true (again_of p.state (length s) (length rs) p.state.entries 2) (too_is ∙ z) refl; answered = told_is ∙ rw (or_true (ltb (length rs) (length xs)) (ltb (length hs) (length (hits xs))) z) }))
            (λ z. on (ltb (length rs) (length xs))
            (λ y. inl (record { number = 13; offset = 0; refused = next_by false (refused_at 13 0) (too_is ∙ z) (rw (g.clear, g.stopped, count_is, y)); answered = told_is ∙ rw y }))
            (λ y. inr (record { xs = xs; zs = zs; env = d; said_is = said_is; went = g; roomy = y; held = z })))

      on_outcome : (y : Answer) → said ≡ y → Ended y first p → Halt ⊎ Fill
      on_outcome (refuse n j) e g = inl (record { number = n; offset = j; refused = pass_refused n j g; answered = told-refused n j (o.answered ∙ rw e) })
      on_outcome (answer xs zs d) e g = accepted xs zs d e g

      outcome : Halt ⊎ Fill
      outcome = on_outcome said refl (on_ends s list rs es a ws₁ o.started p is o.bytes o.reads)

      fills : (f : Fill) → x ≡ Ok (begin_of (length s) (length rs) p.state.entries p.state.fonts p.state.unitwidth 2)
      fills f =
          next_by false (begin_of (length s) (length rs) p.state.entries p.state.fonts p.state.unitwidth 2) (too_is f.xs f.zs f.env f.said_is f.went ∙ f.held)
          (rw (f.went.clear, f.went.stopped, count_is f.xs f.zs f.env f.said_is f.went, f.roomy, le-ltb p.state.entries p.state.entries (omega arith)))

      -- the refusal is the rules' own, and the rows are as they were
      next_refused : (r : Refusal) → x ≡ Err r → FindCall s list fl q rs hs (Err r) p.records hs
      next_refused r e = go outcome
        where
          go : Halt ⊎ Fill → FindCall s list fl q rs hs (Err r) p.records hs
          go (inl h) =
              let i : r ≡ refusal h.number h.offset = err_is r (refusal h.number h.offset) (sym e ∙ h.refused) in
              record { answer = rw (h.answered, i); records = kept ∙ rw h.answered; hits = rw h.answered }
          go (inr f) = not_both r (begin_of (length s) (length rs) p.state.entries p.state.fonts p.state.unitwidth 2) (sym e ∙ fills f)

      module _ (c : State) (goes : x ≡ Ok c) (ws₂ : List ℕ) (u : Unmounted p.scratch ws₂) where
        -- what the filling pass asks
        next-sound : PassReady (length s) ws₂ (length p.records) (length p.entries) c
        next-sound =
            subst (PassReady (length s) ws₂ (length p.records) (length p.entries)) (sym (next_again p.state c (length s) (length rs) too (sym next ∙ goes)))
            (filling-sound s list rs es a ws₁ o.started p is p.state.entries 2 (λ z. impossible z) ws₂ u o.reads)

        module _ (p₂ : ReadPass) (ends : p₂ ≡ read_pass_of (find_in list c.fonts ws₂) s (pass_from c ws₂ p.records p.entries)) where
          module _ (f : Fill) where
            filled : c ≡ begin_of (length s) (length rs) p.state.entries p.state.fonts p.state.unitwidth 2
            filled = ok_is c (begin_of (length s) (length rs) p.state.entries p.state.fonts p.state.unitwidth 2) (sym goes ∙ fills f)

            records_fit : length f.xs ≤ length rs
            records_fit = ltb-false (length rs) (length f.xs) f.roomy

            abbrev again : State
            again = refill s list rs es a ws₁ o.started p is o.bytes o.reads f.xs f.zs f.env f.said_is f.went p.state.entries 2 ws₂ u c filled

            filling : Accepted f.xs f.zs f.env (pass_from again ws₂ p.records p.entries) p₂
            filling = refilled s list rs es a ws₁ o.started p is o.bytes o.reads f.xs f.zs f.env f.said_is f.went p.state.entries 2 ws₂ u c filled records_fit (omega (arith, number_is f.xs f.zs f.env f.said_is f.went)) p₂ ends

            done_by : Done s list fl q w rs hs p₂
            done_by = record {
              glyphs = f.xs;
              clear = filling.clear;
              count = filling.count ∙ (let e : 0 + length f.xs ≡ length f.xs = omega arith in e);
              records = filling.records ∙ rw kept (over_is (map record_of f.xs) rs (omega (arith, records_fit, length-map record_of f.xs)));
              fit = records_fit;
              few = few_records f.xs f.zs f.env f.said_is f.went;
              stand = (subst (RowsOf s) f.said_is (names_stand o.reads.widths s)).0;
              room = ltb-false (length hs) (length (hits f.xs)) f.held;
              answered = told_is f.xs f.zs f.env f.said_is f.went ∙ rw (f.roomy, f.held);
            }

          done : Done s list fl q w rs hs p₂
          done = go outcome
            where
              go : Halt ⊎ Fill → Done s list fl q w rs hs p₂
              go (inl h) = not_both (refusal h.number h.offset) c (sym h.refused ∙ goes)
              go (inr f) = done_by f

          module _ (d : Done s list fl q w rs hs p₂) where
            -- the row has a place for each record
            enough : length d.glyphs ≤ length p₂.records
            enough = rw d.records (omega (arith, length_over (map record_of d.glyphs) rs (omega (arith, d.fit, length-map record_of d.glyphs)), d.fit))

            -- what the search's beginning asks
            few_sound : p₂.state.records ≤ 16777216
            few_sound = omega (arith, d.count, d.few)

            -- as many glyphs as the query has
            many : length w.glyphs.now ≡ length o.wanted
            many =
                let e : length (glyphs_of w) ≡ length (map (sought o.families) o.wanted) = ap length o.glyphs in
                omega (arith, e, length-map (λ (g : Sought). sought_by w.query.now w.families.now w.table.now g) w.glyphs.now, sought-length o.families o.wanted)

            abbrev fresh : Progress
            fresh = fresh_of p₂.state.records k (length hs)

            -- nothing is refused, so all of the records are searched
            fresh_is : progress_of p₂.state k (length hs) ≡ fresh
            fresh_is = rw d.clear

            -- the search is ready, which is more than it asks
            search_sound : SearchReady (length p₂.records) (length hs) w fresh
            search_sound = record {
              glyphs = omega (arith, many, o.count);
              good = λ z. record { few = few_sound; glyph = omega (arith, o.count, o.some); most = omega (arith, o.count, o.few); inside = let y : 0 < left_at p₂.state.records 0 0 = z in omega arith; left = refl };
              records = omega (arith, d.count, enough);
              hits = refl;
            }

            module _ (l : Looked) (looks : l ≡ search_of s w p₂.records (record { state = fresh; hits = hs })) where
              abbrev listed : List ℕ
              listed = hits d.glyphs

              abbrev searched_for : List ℕ
              searched_for = hits_from (glyphs_of w) 0 (map (λ (r : Record). key_in s (record_key r)) (take (length d.glyphs) p₂.records))

              -- the search looks for the query's glyphs in the records of the stream
              listed_is : searched_for ≡ listed
              listed_is = rw (d.records, row_seen s d.glyphs rs d.stand)

              exact : (l.hits ≡ over searched_for hs) × (l.state.hits ≡ length searched_for)
              exact =
                  let n : k ≡ length w.glyphs.now = omega (arith, many, o.count) in
                  subst (λ (i : Looked). (i.hits ≡ over searched_for hs) × (i.state.hits ≡ length searched_for))
                  (sym (looks ∙ ap₂ (λ (i j : ℕ). search_of s w p₂.records (record { state = fresh_of i j (length hs); hits = hs })) d.count n))
                  (search_exact s w p₂.records (length d.glyphs) enough hs (rw listed_is d.room) d.few (omega (arith, many, o.some)) (omega (arith, many, o.few)))

              -- and what is answered
              accepted_as : FindCall s list fl q rs hs (Ok (record { records = p₂.state.records; hits = l.state.hits })) p₂.records l.hits
              accepted_as = record {
                answer = rw (d.answered, d.count, exact.1, listed_is);
                records = rw d.answered d.records;
                hits = rw d.answered (exact.0 ∙ ap (λ (i : List ℕ). over i hs) listed_is);
              }

    -- there is no room for the hits
    pub room_refused : (r : Refusal) → Err r ≡ room_of s w p.state (length hs) → FindCall s list fl q rs hs (Err r) p.records hs
    room_refused r h =
        on too
        (λ z. let i : r ≡ refusal 13 0 = err_is r (refusal 13 0) (rw z at h) in next_refused (Err r) (rw (z, i)) r refl)
        (λ z. not_both r tt (rw z at h))

    -- there is; then what begins the pass that fills the records, or refuses it
    module _ (v : Unit {0}) (roomy : Ok v ≡ room_of s w p.state (length hs)) where
      fits : too ≡ false
      fits = on too (λ z. not_both (refusal 13 0) v (sym (rw z at roomy))) (λ z. z)

      goes_on : (x : Result State Refusal) → x ≡ find_next_of p.state (length s) (length p.records) → x ≡ next_of too p.state (length s) (length rs)
      goes_on x e = e ∙ ap (λ (i : List Record). find_next_of p.state (length s) (length i)) kept ∙ rw fits

      pub again_refused : (r : Refusal) → Err r ≡ find_next_of p.state (length s) (length p.records) → FindCall s list fl q rs hs (Err r) p.records hs
      again_refused r e = next_refused (Err r) (goes_on (Err r) e) r refl

      module _ (c : State) (e : Ok c ≡ find_next_of p.state (length s) (length p.records)) (ws₂ : List ℕ) (m : Unmounted p.scratch ws₂) where
        pub pass_sound : PassReady (length s) ws₂ (length p.records) (length p.entries) c
        pass_sound = next-sound (Ok c) (goes_on (Ok c) e) c refl ws₂ m

        there : (p₂ : ReadPass) → p₂ ≡ read_pass_of (find_in list c.fonts ws₂) s (pass_from c ws₂ p.records p.entries) → Done s list fl q w rs hs p₂
        there p₂ ends = done (Ok c) (goes_on (Ok c) e) c refl ws₂ m p₂ ends

        module _ (p₂ : ReadPass) (ends : p₂ ≡ read_pass_of (find_in list c.fonts ws₂) s (pass_from c ws₂ p.records p.entries)) where
          pub progress_sound : p₂.state.records ≤ 16777216
          progress_sound = few_sound (Ok c) (goes_on (Ok c) e) c refl ws₂ m p₂ ends (there p₂ ends)

          pub progress_is : progress_of p₂.state k (length hs) ≡ fresh_of p₂.state.records k (length hs)
          progress_is = fresh_is (Ok c) (goes_on (Ok c) e) c refl ws₂ m p₂ ends (there p₂ ends)

          pub looking_sound : SearchReady (length p₂.records) (length hs) w (fresh_of p₂.state.records k (length hs))
          looking_sound = search_sound (Ok c) (goes_on (Ok c) e) c refl ws₂ m p₂ ends (there p₂ ends)

          pub looking_ready : SearchReadyOrDone (length p₂.records) (length hs) w (progress_of p₂.state k (length hs))
          looking_ready = rw progress_is (ready_or_done (length p₂.records) (length hs) w (fresh_of p₂.state.records k (length hs)) looking_sound)

          pub found_as : (l : Looked) → l ≡ search_of s w p₂.records (record { state = progress_of p₂.state k (length hs); hits = hs }) → FindCall s list fl q rs hs (Ok (record { records = p₂.state.records; hits = l.state.hits })) p₂.records l.hits
          found_as l looks = accepted_as (Ok c) (goes_on (Ok c) e) c refl ws₂ m p₂ ends (there p₂ ends) l (looks ∙ ap (λ (i : Progress). search_of s w p₂.records (record { state = i; hits = hs })) progress_is)

-- ---- the whole way of a finding, with each place where it ends

-- the sizes, both lists and the query are in order
pub record InOrder (s list fl q : List ℕ) : Type 0 where
  pub unit : Unit {0}
  pub sized : Ok unit ≡ sizes_of fl q
  pub first : State
  pub scratch : List ℕ
  pub begun : Begun s list (Ok first) scratch
  pub table : Table
  pub glyphs : List Sought
  pub count : ℕ
  pub asked : AsksFor fl q (Ok count) table glyphs
  pub question : Question
  pub poses : Poses q fl table glyphs count question

-- the judging pass has run
pub record Judged (s list fl q : List ℕ) (rs : List Record) : Type 0 where
  pub order : InOrder s list fl q
  pub entries : List Entry
  pub pass : ReadPass
  pub is : pass ≡ read_pass_of (find_in list order.first.fonts order.scratch) s (pass_from order.first order.scratch rs entries)

-- there is room for the hits and the records, and the second pass has run
pub record Filled (s list fl q : List ℕ) (rs : List Record) (hs : List ℕ) : Type 0 where
  pub judged : Judged s list fl q rs
  pub unit : Unit {0}
  pub roomy : Ok unit ≡ room_of s judged.order.question judged.pass.state (length hs)
  pub again : State
  pub scratch : List ℕ
  pub goes : Ok again ≡ find_next_of judged.pass.state (length s) (length judged.pass.records)
  pub unmounted : Unmounted judged.pass.scratch scratch
  pub pass : ReadPass
  pub is : pass ≡ read_pass_of (find_in list again.fonts scratch) s (pass_from again scratch judged.pass.records judged.pass.entries)

-- A finding ran, and gave this answer and left this in the rows: it was refused for the sizes of the family list or the query; for the
-- stream's or the width list's size, or the width list; for the family list or the query; for the room of the hits; for the stream or the
-- room of the records; or it went to its end.
pub data Ran (s list fl q : List ℕ) (rs : List Record) (hs : List ℕ) : Result Finding Refusal → List Record → List ℕ → Type 0 where
  at_sizes : (r : Refusal) → Err r ≡ sizes_of fl q → Ran s list fl q rs hs (Err r) rs hs
  at_start : (u : Unit {0}) → Ok u ≡ sizes_of fl q → (ws : List ℕ) (r : Refusal) → Begun s list (Err r) ws → Ran s list fl q rs hs (Err r) rs hs
  at_ask : (u : Unit {0}) → Ok u ≡ sizes_of fl q → (a : State) (ws : List ℕ) → Begun s list (Ok a) ws → (tab : Table) (gl : List Sought) (r : Refusal) → AsksFor fl q (Err r) tab gl
      → Ran s list fl q rs hs (Err r) rs hs
  at_room : (j : Judged s list fl q rs) (r : Refusal) → Err r ≡ room_of s j.order.question j.pass.state (length hs) → Ran s list fl q rs hs (Err r) j.pass.records hs
  at_again : (j : Judged s list fl q rs) (v : Unit {0}) → Ok v ≡ room_of s j.order.question j.pass.state (length hs)
      → (r : Refusal) → Err r ≡ find_next_of j.pass.state (length s) (length j.pass.records) → Ran s list fl q rs hs (Err r) j.pass.records hs
  at_end : (f : Filled s list fl q rs hs) (l : Looked)
      → l ≡ search_of s f.judged.order.question f.pass.records (record { state = progress_of f.pass.state f.judged.order.count (length hs); hits = hs })
      → Ran s list fl q rs hs (Ok (record { records = f.pass.state.records; hits = l.state.hits })) f.pass.records l.hits

module _ (s list fl q : List ℕ) (rs : List Record) (hs : List ℕ) where
  asks_of : (o : InOrder s list fl q) → Asks s list fl q o.question o.count o.first o.scratch
  asks_of o = asks_by s list fl q o.unit o.sized o.first o.scratch o.begun o.table o.glyphs o.count o.question o.poses o.asked

  -- the answer and both rows are the rules' own, wherever it ended
  pub finds_as : (x : Result Finding Refusal) (rs' : List Record) (hs' : List ℕ) → Ran s list fl q rs hs x rs' hs' → FindCall s list fl q rs hs x rs' hs'
  finds_as _ _ _ (at_sizes r h) = refused_call s list fl q rs hs r (sizes_refused s list fl q r h)
  finds_as _ _ _ (at_start u z ws r h) = refused_call s list fl q rs hs r (start_refused s list fl q u z ws r h)
  finds_as _ _ _ (at_ask u z a ws b tab gl r h) = refused_call s list fl q rs hs r (ask_refused s list fl q u z ws a b tab gl r h)
  finds_as _ _ _ (at_room j r h) = let o = j.order in room_refused s list fl q o.question o.count o.first o.scratch (asks_of o) rs j.entries hs j.pass j.is r h
  finds_as _ _ _ (at_again j v y r h) = let o = j.order in again_refused s list fl q o.question o.count o.first o.scratch (asks_of o) rs j.entries hs j.pass j.is v y r h
  finds_as _ _ _ (at_end f l h) =
      let j = f.judged in
      let o = j.order in
      found_as s list fl q o.question o.count o.first o.scratch (asks_of o) rs j.entries hs j.pass j.is f.unit f.roomy f.again f.goes f.scratch f.unmounted f.pass f.is l h
