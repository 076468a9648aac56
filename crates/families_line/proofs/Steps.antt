-- What stands behind a key, by the comparison that `starts_with` makes; and the mark of a name, one byte further.
use Rattle.std.proofs.Common.{ℕ, ◌+◌, ◌*◌, ◌%◌, ◌<◌, ◌≤◌, Bool, true, false, ◌&&◌, List, [], ◌∷◌, take, drop, length, get_or, drop-cons, add-one, ◌≡◌, refl, sym, ◌∙◌, nat_eq, if◌then◌else◌}
use Rattle.std.proofs.Math.Option.{Option, none, some}
use Rattle.std.specs.Cmp.Lexicographic.{pointwise}
use lib.ListN.{drop_of_length-le}
use Rattle.rules.specs.Widths.{behind}
use Rattle.families_line.specs.Line.{mark_from, mark_of}

first_by : (e : Bool) (o : Option (List ℕ)) (q : Bool) (t : List ℕ) → o ≡ (if q then some t else none)
    → (if e then o else none) ≡ (if e && q then some t else none)
first_by true o q t h = h
first_by false o q t h = refl

pub behind_by : (key t : List ℕ) → behind key t ≡ (if pointwise nat_eq key (take (length key) t) then some (drop (length key) t) else none)
unfolding behind
behind_by [] t = refl
behind_by (x ∷ xs) [] = refl
behind_by (x ∷ xs) (b ∷ t) = first_by (nat_eq x b) (behind xs t) (pointwise nat_eq xs (take (length xs) t)) (drop (length xs) t) (behind_by xs t)

pub mark_more : (s : List ℕ) (i n : ℕ) → mark_of s ≡ mark_from n (drop i s) → i < length s → mark_of s ≡ mark_from ((n * 31 + get_or s i 0) % 16384) (drop (i + 1) s)
unfolding mark_from
mark_more s i n m h = m ∙ rw (drop-cons s i 0 h, add-one)

pub mark_over : (s : List ℕ) (i n : ℕ) → mark_of s ≡ mark_from n (drop i s) → length s ≤ i → n ≡ mark_of s
unfolding mark_from
mark_over s i n m h = sym (m ∙ rw (drop_of_length-le s h))

pub ruleset marking = (mark_more, mark_over)
