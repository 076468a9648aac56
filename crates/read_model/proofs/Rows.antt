-- What a turn does to the numbers of records and entries and to the rows.
use Rattle.std.specs.Prelude.{if◌then◌else◌}
use Prim.Native.Nat.{ℕ, zero, suc, ◌+◌, ◌-◌, ◌≤◌}
use native.Mathlib.Omega.{arith}
use native.Mathlib.Nat.{add-zero}
use native.Mathlib.Numerals.{add-one}
use mathlib.Core.Bool.{Bool}
use mathlib.Core.List.{List, [], ◌∷◌, ◌++◌}
use mathlib.Core.Path.{◌≡◌, refl, sym, ap, ◌∙◌}
use lib.ListN.{length, drop, set}
use lib.Seq.{sets, sets-eq}
use borrow.Author.Tests.{lt-ltb, le-ltb}
use Rattle.rules.specs.declared.Record.{Record}
use Rattle.rules.specs.declared.Entry.{Entry}
use Rattle.rules.specs.Record.{over}
use Rattle.laws.proofs.Cases.{on}
use Rattle.read_model.specs.declared.Environment.{Environment}
use Rattle.read_model.specs.declared.Word.{Word}
use Rattle.read_model.specs.declared.Emitted.{Emitted}
use Rattle.read_model.specs.declared.Emitted.TheVariants as E
use Rattle.read_model.specs.declared.State.{State}
use Rattle.read_model.specs.declared.Turned.{Turned}
use Rattle.read_model.specs.Words.{word_next, word_record, word_records}
use Rattle.read_model.specs.Turns.{gone_to, fills_records, fills_entries, emitted}
use Rattle.read_model.specs.Passes.{word_fill, records_after, entries_after}
use Rattle.read_model.proofs.Acts.{records_in, entries_in}

-- ---- what is written from k on, where the rows are filled

abbrev pub written : {A : Type 0} → Bool → List A → ℕ → List A → List A
written fill old k new = if fill then sets old k new else old

pub sets_append {ℓ} : {A : Type ℓ} (xs ys old : List A) (k : ℕ) → sets (sets old k xs) (k + length xs) ys ≡ sets old k (xs ++ ys)
sets_append [] ys old k = ap (λ (i : ℕ). sets old i ys) (add-zero k)
sets_append (x ∷ xs) ys old k =
    let e : k + suc (length xs) ≡ suc k + length xs = omega arith in
    ap (λ (i : ℕ). sets (sets (set old k x) (suc k) xs) i ys) e ∙ sets_append xs ys (set old k x) (suc k)

pub written-append : {A : Type 0} (fill : Bool) (xs ys old : List A) (k : ℕ) → written fill (written fill old k xs) (k + length xs) ys ≡ written fill old k (xs ++ ys)
written-append fill xs ys old k = on fill (λ e. rw e (sets_append xs ys old k)) (λ e. rw e)

pub written_none : {A : Type 0} (fill : Bool) (old : List A) (k : ℕ) → written fill old k [] ≡ old
written_none fill old k = on fill (λ e. rw e) (λ e. rw e)

-- what is written from the first place on stands in front of what was there
pub over_is {ℓ} : {A : Type ℓ} (new old : List A) → length new ≤ length old → sets old 0 new ≡ over new old
over_is new old h = sets-eq new old 0 (omega arith) ∙ ap (λ (k : ℕ). new ++ drop k old) (let e : 0 + length new ≡ length new = omega arith in e)

-- ---- a word

word_sets : (n : ℕ) (s ws : List ℕ) (k : ℕ) (d : Word) (rows : List Record) → word_fill n s ws k d rows ≡ sets rows k (word_records n s ws d)
unfolding word_fill word_records
word_sets zero s ws k d rows = refl
word_sets (suc n) s ws k d rows = ap (λ (i : ℕ). word_fill n s ws i (word_next s ws d) (set rows k (word_record d))) (add-one k) ∙ word_sets n s ws (suc k) (word_next s ws d) (set rows k (word_record d))

pub word_length : (n : ℕ) (s ws : List ℕ) (d : Word) → length (word_records n s ws d) ≡ n
unfolding word_records
word_length zero s ws d = refl
word_length (suc n) s ws d = ap suc (word_length n s ws (word_next s ws d))

-- ---- one turn

pub record Turns (s ws : List ℕ) (n : ℕ) (st : State) (next : ℕ) (e : Environment) (x : Emitted) (t : Turned) : Type 0 where
  pub state : t.state ≡ gone_to n st next (st.records + length (records_in s ws x)) (st.entries + length (entries_in x)) e
  pub records : (old : List Record) → records_after s ws old t.effect ≡ written (fills_records st.fill) old st.records (records_in s ws x)
  pub entries : (old : List Entry) → entries_after old t.effect ≡ written (fills_entries st.fill) old st.entries (entries_in x)

module _ (s ws : List ℕ) (n : ℕ) (st : State) (next : ℕ) (e : Environment) where
  pub emitted-turns : (x : Emitted) → st.records + length (records_in s ws x) ≤ st.rmax → st.entries + length (entries_in x) ≤ st.emax → Turns s ws n st next e x (emitted n st next e x)
  emitted-turns E.Nothing r q = record {
    state = rw (add-zero st.records, add-zero st.entries);
    records = λ old. sym (written_none (fills_records st.fill) old st.records);
    entries = λ old. sym (written_none (fills_entries st.fill) old st.entries);
  }
  emitted-turns (E.Record y) r q =
      rw (lt-ltb st.records st.rmax (omega arith)) (record {
        state = rw (add-zero st.entries);
        records = λ old. on (fills_records st.fill) (λ k. rw k) (λ k. rw k);
        entries = λ old. on (fills_records st.fill) (λ k. rw k (sym (written_none (fills_entries st.fill) old st.entries))) (λ k. rw k (sym (written_none (fills_entries st.fill) old st.entries)));
      })
  emitted-turns (E.Entry y) r q =
      rw (lt-ltb st.entries st.emax (omega arith)) (record {
        state = rw (add-zero st.records);
        records = λ old. on (fills_entries st.fill) (λ k. rw k (sym (written_none (fills_records st.fill) old st.records))) (λ k. rw k (sym (written_none (fills_records st.fill) old st.records)));
        entries = λ old. on (fills_entries st.fill) (λ k. rw k) (λ k. rw k);
      })
  emitted-turns (E.Word d) r q =
      let l : length (word_records d.left s ws d) ≡ d.left = word_length d.left s ws d in
      rw (le-ltb (st.rmax - st.records) d.left (omega arith)) (record {
        state = rw (l, add-zero st.entries);
        records = λ old. on (fills_records st.fill) (λ k. rw k (word_sets d.left s ws st.records d old)) (λ k. rw k);
        entries = λ old. on (fills_records st.fill) (λ k. rw k (sym (written_none (fills_entries st.fill) old st.entries))) (λ k. rw k (sym (written_none (fills_entries st.fill) old st.entries)));
      })
