-- The refusals by their numbers: what each one's offset is, and that it lies in its input.
use Prim.Native.Nat.{ℕ, ◌+◌, ◌<◌, ◌≤◌}
use native.Mathlib.Omega.{arith}
use mathlib.Core.Bool.{false}
use mathlib.Core.List.{List, [], ◌∷◌}
use mathlib.Core.Logic.{◌⊎◌, inl, inr}
use mathlib.Core.Path.{◌≡◌, refl}
use borrow.Author.Tests.{ne_eqb}
use lib.Dec.{eqb}
use lib.ListN.{length, length-drop}
use Rattle.rules.specs.Widths.{Widths}
use Rattle.rules.specs.State.{Env}
use Rattle.laws_scan.proofs.Bounds.{command_in}
use Rattle.laws_arguments.proofs.Arguments.{points_at_argument}
use Rattle.laws_offsets.specs.Stream.{byte_at, behind_at, FirstByte, ArgumentAt, BarredAt, Fault, as_written, by_argument, by_name, as_done, behind-stop, StreamOffset, at_command, at_end}
use Rattle.laws_offsets.specs.Lists.{LineStart, first_line, behind_newline, ListOffset, FamilyOffset, QueryOffset}
use Rattle.laws_offsets.specs.Offsets.{ReadOffset, too_long, in_list, in_stream, FindOffset, one_too_long, then_in_list, then_in_families, then_in_query, then_in_stream, OrRoom, room_aside, no_room, InTableTo, Said, ByNumber}
use Rattle.laws_offsets.proofs.Offsets.{offsets}

-- of a stream: 3 to 10 and 16 at a first byte, but 6 at an argument; or 11 at the end
abbrev OfStreamNumber : ℕ → Type 0
OfStreamNumber n = ((3 ≤ n) × (n ≤ 11)) ⊎ (n ≡ 16)

record OfStream (s : List ℕ) (n at : ℕ) : Type 0 where
  number : OfStreamNumber n
  first : n ≤ 10 → (n ≡ 6 → ⊥) → FirstByte s at
  argument : n ≡ 6 → ArgumentAt s at
  name : n ≡ 16 → BarredAt s at
  end : n ≡ 11 → at ≡ length s
  inside : at ≤ length s

-- what stands at a place is at fault with a number from 3 to 10
at_first : (s : List ℕ) (p n : ℕ) → FirstByte s p → 3 ≤ n → n ≤ 10 → (n ≡ 6 → ⊥) → OfStream s n p
at_first s p n f lo hi no_6 =
    record { number = inl (lo, omega arith); first = λ h k. f; argument = λ h. absurd (no_6 h); name = λ h. absurd (omega arith); end = λ h. absurd (omega arith); inside = omega (arith, f.inside) }

of_fault : (w : Widths) (s : List ℕ) (p : ℕ) (e : Env) (n at : ℕ) → FirstByte s p → Fault w s p e n at → OfStream s n at
of_fault w s p e _ _ f (as_written n k h q lo hi) = at_first s p n f lo (omega arith) (λ z. omega arith)
of_fault w s p e _ _ f (by_argument k o q) =
    let g : k ≤ length (byte_at s p ∷ behind_at s p) = rw (points_at_argument.given (byte_at s p) (behind_at s p) k o) at (command_in (byte_at s p) (behind_at s p)) in
    record {
      number = inl (omega arith, omega arith);
      first = λ a b. absurd (b refl);
      argument = λ a. record { place = p; first = f; behind = k; offset = refl; outside = o };
      name = λ a. absurd (omega arith);
      end = λ a. absurd (omega arith);
      inside = omega (arith, f.inside, length-drop (p + 1) s);
    }
of_fault w s p e _ _ f (by_name o q) =
    record {
      number = inr refl;
      first = λ a b. f;
      argument = λ a. absurd (omega arith);
      name = λ a. record { first = f; barred = o };
      end = λ a. absurd (omega arith);
      inside = omega (arith, f.inside);
    }
of_fault w s p e _ _ f (as_done n c a l h q lo hi) = at_first s p n f (omega arith) hi (λ z. omega arith)
of_fault w s p e _ _ f (behind-stop n k h q) = at_first s p 7 f (omega arith) (omega arith) (λ z. omega arith)

of_stream : (w : Widths) (s : List ℕ) (n at : ℕ) → StreamOffset w s n at → OfStream s n at
of_stream w s _ _ (at_command n at f) = of_fault w s f.place f.env n at f.first f.fault
of_stream w s _ _ (at_end e h p) =
    record { number = inl (omega arith, omega arith); first = λ k. absurd (omega arith); argument = λ k. absurd (omega arith); name = λ k. absurd (omega arith); end = λ k. refl; inside = omega arith }

in_table : (most n : ℕ) → 11 ≤ most → OfStreamNumber n → InTableTo most n
in_table most n l (inl h) = inl (omega arith, omega arith)
in_table most n l (inr h) = inr h

stream_number : (n : ℕ) → OfStreamNumber n → (3 ≤ n) × (n ≡ 12 → ⊥) × (n ≡ 13 → ⊥) × (n ≡ 14 → ⊥)
stream_number n (inl h) = (h.0, λ k. omega arith, λ k. omega arith, λ k. omega arith)
stream_number n (inr h) = (omega arith, λ k. omega arith, λ k. omega arith, λ k. omega arith)

pub start_inside : (t : List ℕ) (at : ℕ) → LineStart t at → at ≤ length t
start_inside t _ first_line = omega arith
start_inside t _ (behind_newline at h e) = omega arith

module _ (s list fl q : List ℕ) where
  -- 1 and 13, which point at no place
  long_said : (16_777_216 < length s) ⊎ (65_536 < length list) ⊎ (65_536 < length fl) ⊎ (8_192 < length q) → Said s list fl q 1 0
  long_said o = record {
    number = inl (omega arith, omega arith);
    of_1 = λ h. (refl, o);
    of_2 = λ h. absurd (omega arith);
    of_3_to_5 = λ h k. absurd (omega arith);
    of_6 = λ h. absurd (omega arith);
    of_7_to_10 = λ h k. absurd (omega arith);
    of_11 = λ h. absurd (omega arith);
    of_12 = λ h. absurd (omega arith);
    of_13 = λ h. absurd (omega arith);
    of_14 = λ h. absurd (omega arith);
    of_16 = λ h. absurd (omega arith);
    inside = omega arith;
  }

  room_said : Said s list fl q 13 0
  room_said = record {
    number = inl (omega arith, omega arith);
    of_1 = λ h. absurd (omega arith);
    of_2 = λ h. absurd (omega arith);
    of_3_to_5 = λ h k. absurd (omega arith);
    of_6 = λ h. absurd (omega arith);
    of_7_to_10 = λ h k. absurd (omega arith);
    of_11 = λ h. absurd (omega arith);
    of_12 = λ h. absurd (omega arith);
    of_13 = λ h. refl;
    of_14 = λ h. absurd (omega arith);
    of_16 = λ h. absurd (omega arith);
    inside = omega arith;
  }

  list_said : (at : ℕ) → ListOffset list at → Said s list fl q 2 at
  list_said at o = record {
    number = inl (omega arith, omega arith);
    of_1 = λ h. absurd (omega arith);
    of_2 = λ h. o;
    of_3_to_5 = λ h k. absurd (omega arith);
    of_6 = λ h. absurd (omega arith);
    of_7_to_10 = λ h k. absurd (omega arith);
    of_11 = λ h. absurd (omega arith);
    of_12 = λ h. absurd (omega arith);
    of_13 = λ h. absurd (omega arith);
    of_14 = λ h. absurd (omega arith);
    of_16 = λ h. absurd (omega arith);
    inside = start_inside list at o.line;
  }

  stream_said : (n at : ℕ) → OfStream s n at → Said s list fl q n at
  stream_said n at o =
      let r : (3 ≤ n) × (n ≡ 12 → ⊥) × (n ≡ 13 → ⊥) × (n ≡ 14 → ⊥) = stream_number n o.number in
      let l : 3 ≤ n = r.0 in
      let no_2 : eqb n 2 ≡ false = ne_eqb n 2 (λ h. omega arith) in
      let no_12 : eqb n 12 ≡ false = ne_eqb n 12 r.1 in
      let no_14 : eqb n 14 ≡ false = ne_eqb n 14 r.3 in
      record {
        number = in_table 14 n (omega arith) o.number;
        of_1 = λ h. absurd (omega arith);
        of_2 = λ h. absurd (omega arith);
        of_3_to_5 = λ h k. o.first (omega arith) (λ z. omega arith);
        of_6 = o.argument;
        of_7_to_10 = λ h k. o.first k (λ z. omega arith);
        of_11 = o.end;
        of_12 = λ h. absurd (r.1 h);
        of_13 = λ h. absurd (r.2 h);
        of_14 = λ h. absurd (r.3 h);
        of_16 = o.name;
        inside = rw (no_2, no_14, no_12) o.inside;
      }

  query_said : (at : ℕ) → QueryOffset q at → Said s list fl q 12 at
  query_said at o = record {
    number = inl (omega arith, omega arith);
    of_1 = λ h. absurd (omega arith);
    of_2 = λ h. absurd (omega arith);
    of_3_to_5 = λ h k. absurd (omega arith);
    of_6 = λ h. absurd (omega arith);
    of_7_to_10 = λ h k. absurd (omega arith);
    of_11 = λ h. absurd (omega arith);
    of_12 = λ h. o;
    of_13 = λ h. absurd (omega arith);
    of_14 = λ h. absurd (omega arith);
    of_16 = λ h. absurd (omega arith);
    inside = start_inside q at o.line;
  }

  families_said : (at : ℕ) → FamilyOffset fl at → Said s list fl q 14 at
  families_said at o = record {
    number = inl (omega arith, omega arith);
    of_1 = λ h. absurd (omega arith);
    of_2 = λ h. absurd (omega arith);
    of_3_to_5 = λ h k. absurd (omega arith);
    of_6 = λ h. absurd (omega arith);
    of_7_to_10 = λ h k. absurd (omega arith);
    of_11 = λ h. absurd (omega arith);
    of_12 = λ h. absurd (omega arith);
    of_13 = λ h. absurd (omega arith);
    of_14 = λ h. o;
    of_16 = λ h. absurd (omega arith);
    inside = start_inside fl at o.line;
  }

  read_said : (n at : ℕ) → ReadOffset s list n at → Said s list fl q n at
  read_said _ _ (too_long (inl h)) = long_said (inl h)
  read_said _ _ (too_long (inr h)) = long_said (inr (inl h))
  read_said _ _ (in_list at i o) = list_said at o
  read_said _ _ (in_stream n at w i e o) = stream_said n at (of_stream w s n at o)

  find_said : (n at : ℕ) → FindOffset s list fl q n at → Said s list fl q n at
  find_said _ _ (one_too_long h) = long_said h
  find_said _ _ (then_in_list at i o) = list_said at o
  find_said _ _ (then_in_families at w i e o) = families_said at o
  find_said _ _ (then_in_query at w fs i e g o) = query_said at o
  find_said _ _ (then_in_stream n at w fs qs i e g f o) = stream_said n at (of_stream w s n at o)

  either_said : (P : ℕ → ℕ → Type 0) → ((n at : ℕ) → P n at → Said s list fl q n at) → (n at : ℕ) → OrRoom P n at → Said s list fl q n at
  either_said P f _ _ (room_aside n at o) = f n at o
  either_said P f _ _ no_room = room_said

-- the numbers alone: the reader's, never with 12, 13 or 14; the finder's, never with 13
pub read_number : (s list : List ℕ) (n at : ℕ) → ReadOffset s list n at → InTableTo 11 n
read_number s list _ _ (too_long h) = inl (omega arith, omega arith)
read_number s list _ _ (in_list at i o) = inl (omega arith, omega arith)
read_number s list _ _ (in_stream n at w i e o) = in_table 11 n (omega arith) (of_stream w s n at o).number

pub find_number : (s list fl q : List ℕ) (n at : ℕ) → FindOffset s list fl q n at → InTableTo 12 n ⊎ (n ≡ 14)
find_number s list fl q _ _ (one_too_long h) = inl (inl (omega arith, omega arith))
find_number s list fl q _ _ (then_in_list at i o) = inl (inl (omega arith, omega arith))
find_number s list fl q _ _ (then_in_families at w i e o) = inr refl
find_number s list fl q _ _ (then_in_query at w fs i e g o) = inl (inl (omega arith, omega arith))
find_number s list fl q _ _ (then_in_stream n at w fs qs i e g f o) = inl (in_table 12 n (omega arith) (of_stream w s n at o).number)

-- neither 12 nor 14 without a query and a family list
not_finding : (s list : List ℕ) (n at : ℕ) → OrRoom (ReadOffset s list) n at → (n ≡ 12 → ⊥) × (n ≡ 14 → ⊥)
not_finding s list _ _ (room_aside n at o) = (λ h. go (read_number s list n at o) (inl h), λ h. go (read_number s list n at o) (inr h))
  where
    go : InTableTo 11 n → (n ≡ 12) ⊎ (n ≡ 14) → ⊥
    go (inl k) (inl h) = omega arith
    go (inl k) (inr h) = omega arith
    go (inr k) (inl h) = omega arith
    go (inr k) (inr h) = omega arith
not_finding s list _ _ no_room = (λ h. omega arith, λ h. omega arith)

pub by_number : ByNumber
by_number = record {
  reader = λ records entries s list n at e.
      let o : OrRoom (ReadOffset s list) n at = offsets.reader records entries s list n at e in
      let x : (n ≡ 12 → ⊥) × (n ≡ 14 → ⊥) = not_finding s list n at o in
      (either_said s list [] [] (ReadOffset s list) (read_said s list [] []) n at o, x.0, x.1);
  rewriter = λ room s list n at e.
      let o : OrRoom (ReadOffset s list) n at = offsets.rewriter room s list n at e in
      let x : (n ≡ 12 → ⊥) × (n ≡ 14 → ⊥) = not_finding s list n at o in
      (either_said s list [] [] (ReadOffset s list) (read_said s list [] []) n at o, x.0, x.1);
  finder = λ records hits s list fl q n at e. either_said s list fl q (FindOffset s list fl q) (find_said s list fl q) n at (offsets.finder records hits s list fl q n at e);
  judge = λ s list n at e.
      let o : ReadOffset s list n at = offsets.judges s list n at e in
      (read_said s list [] [] n at o, read_number s list n at o);
}
