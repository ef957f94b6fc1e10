use Rattle.std.proofs.Common.{◌&&◌, ◌+ℤ◌, FitsSigned, to_z, sym, ap, ◌∙◌, refl, arith, rules}
use mir.Syntax.{w128}
use Rattle.std.specs.List.{list_all}
use Rattle.std.proofs.lemmas.Bool.{and_from}
use Rattle.std.proofs.lemmas.Int.{to_z-of_z}
use Rattle.mpx_group.specs.Choice.{is_rank, places}
use Rattle.mpx_group.specs.Picks.{with_ranks}
use Rattle.mpx_group.proofs.Strides.{rest, triplet_ranks-rest, has_stride, starts_within, distance_on, rest_more, rest_end, ended_there, went_on}
use Rattle.mpx_group.proofs.picks.Picks.pick_triplet.Goals as goal

pub ranks-init : goal.ranks-init
ranks-init c =
    let t = c.args.triplet.now in
    let fits : FitsSigned w128 t.first = search rules in
    let start = sym (triplet_ranks-rest t) in
    rw (to_z-of_z w128 t.first fits)
    (record {
      within = starts_within t c.requires.good;
      valid = ap (list_all (is_rank c.args.size)) start;
      picked = ap (λ zs. with_ranks c.args.self.now (places zs)) start;
    })

pub returns-in-None-clause-valid : goal.returns-in-None-clause-valid
returns-in-None-clause-valid c =
    let t = c.args.triplet.now in
    let end = rest_end t (to_z w128 c.ranks.rank-bits) (has_stride t c.requires.good) c.ranks.invariant.within (ended_there _ _ (sym c.in-None.is ∙ c.after.ensures)) in
    sym (sym c.ranks.invariant.valid ∙ ap (list_all (is_rank c.args.size)) end ∙ and_from _ _ (sym c.pick.ensures.valid ∙ c.if-not-pick.false) refl)

pub returns-in-None-clause-picked : goal.returns-in-None-clause-picked
returns-in-None-clause-picked c =
    let t = c.args.triplet.now in
    let end = rest_end t (to_z w128 c.ranks.rank-bits) (has_stride t c.requires.good) c.ranks.invariant.within (ended_there _ _ (sym c.in-None.is ∙ c.after.ensures)) in
    c.if-not-pick.ensures.picked ∙ sym (ap (λ zs. with_ranks c.ranks.self (places zs)) end) ∙ c.ranks.invariant.picked

pub ranks-smaller : goal.ranks-smaller
ranks-smaller c =
    let t = c.args.triplet.now in
    let next : FitsSigned w128 c.in-Some.next = search rules in
    let on = went_on _ _ _ (sym c.in-Some.is ∙ c.after.ensures) in
    let stride = has_stride t c.requires.good in
    simp to_z-of_z (rw on.1 (omega (arith, stride, distance_on t (to_z w128 c.ranks.rank-bits) stride c.ranks.invariant.within on.0)))

pub ranks-preserved : goal.ranks-preserved
ranks-preserved c =
    let t = c.args.triplet.now in
    let r = to_z w128 c.ranks.rank-bits in
    let next : FitsSigned w128 c.in-Some.next = search rules in
    let on = went_on _ _ _ (sym c.in-Some.is ∙ c.after.ensures) in
    let more = rest_more t r (has_stride t c.requires.good) c.ranks.invariant.within on.0 in
    let valid = sym c.pick.ensures.valid ∙ c.if-not-pick.false in
    simp to_z-of_z (rw on.1
    (record {
      within = on.0;
      valid = sym (ap (list_all (is_rank c.args.size)) more ∙ ap (λ b. b && list_all (is_rank c.args.size) (rest t (r +ℤ t.stride))) valid) ∙ c.ranks.invariant.valid;
      picked = ap (λ p. with_ranks p (places (rest t (r +ℤ t.stride)))) c.if-not-pick.ensures.picked ∙ sym (ap (λ zs. with_ranks c.ranks.self (places zs)) more) ∙ c.ranks.invariant.picked;
    }))
