use Rattle.std.proofs.Common.{◌≡◌, ◌∙◌, arith}
use Rattle.find_search.specs.Search.{blank, hits_after}
use Rattle.find_search.proofs.Looking.{next_known, in_row, less, ended}
use Rattle.find_search.proofs.search.Goals as goal
use Rattle.find_search.proofs.search.Goals.{in-Some, in_default}

pub put-requires : goal.put-requires
put-requires c =
    let e = rw (c.get-r.ensures blank) at c.feed-fed.ensures in
    let i = rw c.in-Some.is at (in_row _ _ _ _ _ _ c.loop-st.invariant.1 c.loop-st-test.true _ e) in
    omega (arith, c.loop-st.invariant.1.hmax, c.loop-st.invariant.1.same)

pub loop-st-smaller : goal.loop-st-smaller
loop-st-smaller c =
    let e = rw (c.get-r.ensures blank) at c.feed-fed.ensures in
    less _ _ _ _ _ _ c.loop-st.invariant.1 c.loop-st-test.true _ e

pub loop-st-preserved : goal.loop-st-preserved
loop-st-preserved c =
    let e = rw (c.get-r.ensures blank) at c.feed-fed.ensures in
    let a : c.match-fed.hits ≡ hits_after c.loop-st.hits c.loop-st.st.hits c.feed-fed.result.hit = elim c.match-fed.branch [
      | in-Some w ↦ rw w.in-Some.is (w.hits-is ∙ w.put.ensures)
      | in_default w ↦ rw w.in_default.is w.hits-is
    ] in
    next_known _ _ _ _ _ _ c.loop-st.invariant.1 c.loop-st-test.true _ e _ a

pub returns : goal.returns
returns c = ended _ _ _ _ _ _ c.loop-st.invariant.1 c.loop-st-test.false
