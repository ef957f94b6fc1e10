use Rattle.std.proofs.Common.{◌≡◌, ℤ, Option, None, length, subst}
use Rattle.std.specs.Prelude.{IsSomeAnd, MatchOption}
use Rattle.mpx_explain.specs.Overflows.{IsKnownAs, first_past, is_product}
use Rattle.mpx_explain.specs.Sums.{comes_to, taken_by}
use Rattle.mpx_explain.proofs.Summing.{counted, past_here, past_nowhere}
use Rattle.mpx_explain.proofs.past.push_past.Goals as goal

pub bounds_of-bounds-requires : goal.bounds_of-bounds-requires
bounds_of-bounds-requires c = counted c.args.row.now.draft.now c.args.row.now.reduction c.requires.row.reduces

pub returns-in_ok-push-in-Some : goal.returns-in_ok-push-in-Some
returns-in_ok-push-in-Some c =
    let row = c.args.row.now in
    let comes = comes_to row (taken_by row c.args.rank) in
    let sums = c.args.sums.now in
    let found = first_past row.draft.now.ty c.bounds_of-bounds.result comes (length sums) in
    let told = subst (λ (p : Option (Option ℤ)). MatchOption p (found ≡ None) (λ e. IsSomeAnd found (IsKnownAs e))) c.in-Some.is (c.first_past-past.ensures (is_product row.draft.now.op) comes c.requires.sums.each) in
    past_here row c.args.rank c.args.statement (length sums) c.bounds_of-bounds.result c.in-Some.exact c.args.all.now.items c.push.new.self.items c.bounds_of-bounds.ensures c.requires.sums.len c.requires.post told c.in_ok-push-in-Some.ensures.items

pub returns-in-None : goal.returns-in-None
returns-in-None c =
    let row = c.args.row.now in
    let comes = comes_to row (taken_by row c.args.rank) in
    let sums = c.args.sums.now in
    let found = first_past row.draft.now.ty c.bounds_of-bounds.result comes (length sums) in
    let told = subst (λ (p : Option (Option ℤ)). MatchOption p (found ≡ None) (λ e. IsSomeAnd found (IsKnownAs e))) c.in-None.is (c.first_past-past.ensures (is_product row.draft.now.op) comes c.requires.sums.each) in
    past_nowhere row c.args.rank c.args.statement (length sums) c.bounds_of-bounds.result c.args.all.now.items c.bounds_of-bounds.ensures c.requires.sums.len c.requires.post told
