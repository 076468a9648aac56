-- No name, glyph or word of an allowed stream has a barred byte, nor has the name of a record.
use Prim.Native.Nat.{ℕ, ◌+◌, ◌-◌}
use mathlib.Core.Bool.{true}
use mathlib.Core.List.{List, [], ◌∷◌, ◌++◌, map}
use mathlib.Core.Path.{◌≡◌, sym, ap, subst, ◌∙◌}
use lib.Dec.{ltb}
use Rattle.rules.specs.Bytes.{origin}
use Rattle.rules.specs.Act.{Act, glyph, index, to, by, page, font, size, colour, break, space, draw, device, resolution, init, file, mount, plain, raw, stop, Cmd, just, word, pair}
use Rattle.rules.specs.Scan.{name_of, name_in, got, command}
use Rattle.rules.specs.Widths.{Widths}
use Rattle.rules.specs.State.{Env, Glyph, Item, Step, start, steps}
use Rattle.rules.specs.Find.{Key, key}
use Rattle.laws.specs.Barred.{NoBarred}
use Rattle.laws.proofs.Cases.{if_both}
use Rattle.laws.proofs.Clear.{clear_none}
use Rattle.laws.proofs.Good.{GoodCmd}
use Rattle.laws_scan.proofs.Fair.{command_good}
use Rattle.laws_read.specs.Outline.{Sign, named_sign, index_sign, gap_sign, page_sign, signs, byte_sign, signs_of, outline, keys_from}
use Rattle.laws_read.proofs.Alike.{glyphs_of, keys_of}
use Rattle.laws_read.proofs.Runs.{well}
use Rattle.laws_arguments.specs.Names.{named_bytes}
use Rattle.laws_arguments.proofs.Names.{names_are}
use Rattle.demands.specs.Demands.{ConsistsOf, ended, white, comment, one, Allowed, EachClear, EachNameClear}

command_clear : (b : ℕ) (r : List ℕ) (c : Cmd) (name len : ℕ) → command b r ≡ got c name len → NoBarred (named_bytes c [])
command_clear b r c name len e = let g : GoodCmd c = rw e at (command_good b r) in rw (names_are c []) (clear_none (name_in c) g.2)

pub each_clear : (s : List ℕ) (cs : List Cmd) → ConsistsOf s cs → EachClear cs
each_clear _ _ ended = tt
each_clear _ _ (white b r cs w h) = each_clear r cs h
each_clear _ _ (comment k r cs n l h) = each_clear r cs h
each_clear _ _ (one b r c name len cs w n e h) = (command_clear b r c name len e, each_clear _ cs h)

-- ---- the names of records: those of the outline, which are names of the commands

-- every name of these signs is clear
abbrev SignsClear : List Sign → Type 0
SignsClear [] = Unit {0}
SignsClear (named_sign n ∷ ms) = NoBarred n × SignsClear ms
SignsClear (index_sign i ∷ ms) = SignsClear ms
SignsClear (gap_sign ∷ ms) = SignsClear ms
SignsClear (page_sign ∷ ms) = SignsClear ms

signs-append : (ms ns : List Sign) → SignsClear ms → SignsClear ns → SignsClear (ms ++ ns)
signs-append [] ns h k = k
signs-append (named_sign n ∷ ms) ns h k = (h.0, signs-append ms ns h.1 k)
signs-append (index_sign i ∷ ms) ns h k = signs-append ms ns h k
signs-append (gap_sign ∷ ms) ns h k = signs-append ms ns h k
signs-append (page_sign ∷ ms) ns h k = signs-append ms ns h k

bytes_clear : (bs : List ℕ) → NoBarred bs → SignsClear (map byte_sign bs)
bytes_clear [] h = tt
bytes_clear (b ∷ bs) h = ((h.0, tt), bytes_clear bs h.1)

act-signs : (a : Act) → NoBarred (name_of a) → SignsClear (signs a)
act-signs (glyph n) h = (h, tt)
act-signs (index n) h = if_both SignsClear (ltb n origin) (gap_sign ∷ []) (index_sign (n - origin) ∷ []) tt tt
act-signs (to x n) h = tt
act-signs (by x n) h = tt
act-signs (page n) h = tt
act-signs (font n) h = tt
act-signs (size n) h = tt
act-signs (colour c ns) h = tt
act-signs break h = tt
act-signs space h = tt
act-signs (draw s ns) h = tt
act-signs (device n) h = tt
act-signs (resolution n m v) h = tt
act-signs init h = tt
act-signs (file n) h = tt
act-signs (mount n m) h = tt
act-signs (plain c ns) h = tt
act-signs (raw t) h = tt
act-signs stop h = tt

cmd_signs : (c : Cmd) → NoBarred (name_in c) → SignsClear (signs_of c)
cmd_signs (just a) h = act-signs a h
cmd_signs (word n bs) h = bytes_clear bs h
cmd_signs (pair n b) h = (h, tt)

outline_clear : (cs : List Cmd) → EachClear cs → SignsClear (outline cs)
unfolding outline
outline_clear [] h = tt
outline_clear (c ∷ cs) h = signs-append (signs_of c) (outline cs) (cmd_signs c (rw (names_are c []) at h.0)) (outline_clear cs h.1)

abbrev KeysClear : List Key → Type 0
KeysClear [] = Unit {0}
KeysClear (k ∷ ks) = NoBarred k.name × KeysClear ks

keys_clear : (ms : List Sign) (o g : ℕ) → SignsClear ms → KeysClear (keys_from o g ms)
unfolding keys_from
keys_clear [] o g h = tt
keys_clear (named_sign n ∷ ms) o g h = (h.0, keys_clear ms o 0 h.1)
keys_clear (index_sign i ∷ ms) o g h = (tt, keys_clear ms o 0 h)
keys_clear (gap_sign ∷ ms) o g h = keys_clear ms o 1 h
keys_clear (page_sign ∷ ms) o g h = keys_clear ms (o + 1) 1 h

glyphs_clear : (gs : List Glyph) → KeysClear (map key gs) → EachNameClear gs
glyphs_clear [] h = tt
glyphs_clear (g ∷ gs) h = (h.0, glyphs_clear gs h.1)

pub records_clear : (s : List ℕ) (w : Widths) (end : Env) (gs : List Glyph) (xs : List Item) → Allowed s w end gs xs → EachNameClear gs
records_clear s w end gs xs a =
    let all : well (steps w start a.commands) ≡ true = ap well a.performed ∙ a.ended in
    let keys : map key (glyphs_of (steps w start a.commands)) ≡ keys_from 0 0 (outline a.commands) = keys_of w a.commands all in
    let these : map key gs ≡ keys_from 0 0 (outline a.commands) = sym (ap (λ (x : Step). map key (glyphs_of x)) a.performed) ∙ keys in
    glyphs_clear gs (subst KeysClear (sym these) (keys_clear (outline a.commands) 0 0 (outline_clear a.commands (each_clear s a.commands a.consists))))
