-- What a call of each routine is (document 01, "How the promises are to be judged": "Every public routine has a promise that says, for
-- each input, the answer and the content of all memory lent to it, refusals included"). Each is the whole contract of its routine, and
-- of its C function, which hands the answer on flat (`FirstNameCall` of the routine alone, C has its place). They bar no input, no list, no query and no row. The demands are stated over
-- them (`demands`).
use Rattle.std.specs.Prelude.{ℕ, List, ◌≡◌, length, Result}
use Rattle.rules.specs.declared.Record.{Record}
use Rattle.rules.specs.declared.Entry.{Entry}
use Rattle.rules.specs.declared.Reading.{Reading}
use Rattle.rules.specs.declared.Refusal.{Refusal}
use Rattle.rules.specs.declared.Finding.{Finding}
use Rattle.rules.specs.declared.Judging.{Judging}
use Rattle.rules.specs.declared.NamePart.{NamePart}
use Rattle.rules.specs.Answers.{read_into, reading_of, records_over, entries_over, respell_into, respelling_of, buffer_over, find_into, finding_of, records_found, hits_over, judge, first_name, bytes_of}

-- the reader: a stream s with its width list, lent the rows rs and es; it answers r, and the rows hold rs' and es' afterwards
pub record ReadCall (s list : List ℕ) (rs : List Record) (es : List Entry) (r : Result Reading Refusal) (rs' : List Record) (es' : List Entry) : Type 0 where
  pub answer : r ≡ reading_of (read_into (length rs) (length es) s list)
  pub records : rs' ≡ records_over rs (read_into (length rs) (length es) s list)
  pub entries : es' ≡ entries_over es (read_into (length rs) (length es) s list)

-- the rewriter: lent the buffer o, which holds o' afterwards
pub record RespellCall (s list o : List ℕ) (r : Result ℕ Refusal) (o' : List ℕ) : Type 0 where
  pub answer : r ≡ respelling_of (respell_into (length o) s list)
  pub buffer : o' ≡ buffer_over o (respell_into (length o) s list)

-- the finder: with a family list fl and a query q, lent the rows rs for records and hs for their numbers
pub record FindCall (s list fl q : List ℕ) (rs : List Record) (hs : List ℕ) (r : Result Finding Refusal) (rs' : List Record) (hs' : List ℕ) : Type 0 where
  pub answer : r ≡ finding_of (find_into (length rs) (length hs) s list fl q)
  pub records : rs' ≡ records_found rs (find_into (length rs) (length hs) s list fl q)
  pub hits : hs' ≡ hits_over hs (find_into (length rs) (length hs) s list fl q)

-- judging (house): nothing is lent
pub record JudgeCall (s list : List ℕ) (r : Result Judging Refusal) : Type 0 where
  pub answer : r ≡ judge s list

-- the first name for a record whose name has this place and length in s, with a family list fl: where it stands; and the bytes of the slice
-- that is handed back, which by its type is a part of one of the two lent ones
pub record NamePartCall (s fl : List ℕ) (place len : ℕ) (r : NamePart) : Type 0 where
  pub answer : r ≡ first_name s fl place len

pub record FirstNameCall (s fl : List ℕ) (place len : ℕ) (n : List ℕ) : Type 0 where
  pub part : n ≡ bytes_of s fl (first_name s fl place len)
