use Rattle.std.proofs.Common.{rules, ◌≡◌, ◌+◌, ◌*◌, ◌<◌, ◌≤◌, ◌++◌, ◌∷◌, [], length, refl, subst, ◌∙◌, arith}
use Rattle.mpx_call.specs.Parts.{cut, put_together}
use Rattle.mpx_call.proofs.Cuts.{SoFar, none_yet}
use Rattle.mpx_program_rank.specs.Lengths.{MakesPart, blocks_given, blocks_got, most_of, part_line}
use Rattle.mpx_program_rank.proofs.Parts.{goes_on, lists_of, no_more}
use Rattle.mpx_program_rank.proofs.rank.Rank.in_parts.Goals as goal

pub loop-first-init : goal.loop-first-init
loop-first-init g c =
    let host = g.H.Host in
    let numbers = g.T.Item.numbers in
    let comm = c.args.comm.now in
    let desk = c.agree.new.self.desk.now in
    let call = MakesPart (λ h. host.goes_by h []) host.node host.turned host.turn_refused comm.name (λ count part. part_line c.args.call g.T.Item.ty count (numbers part)) numbers c.agree.new.self.turns in
    let most = most_of c.args.call comm.size in
    let gives = blocks_given c.args.call comm.rank comm.size in
    let empty : [] ≡ c.new-parts.result.items = search rules in
    record {
      same = refl;
      world = refl;
      turns = refl;
      within = omega arith;
      parts = subst (λ l. SoFar call most gives c.args.count 0 c.args.items.now (lists_of l) desk desk) empty (none_yet call most gives c.args.count c.args.items.now desk);
    }

pub loop-first-preserved : goal.loop-first-preserved
loop-first-preserved g c =
    let host = g.H.Host in
    let numbers = g.T.Item.numbers in
    let comm = c.args.comm.now in
    let so_far = c.loop-first.invariant in
    let gives = blocks_given c.args.call comm.rank comm.size in
    let whole : length c.args.items.now ≡ gives * c.args.count = search rules in
    let fits : c.loop-first.first + c.min-each.result ≤ c.args.count = search rules in
    let few : c.min-each.result ≤ most_of c.args.call comm.size = search rules in
    let some : 0 < c.min-each.result = search rules in
    let last : c.loop-first.first + c.min-each.result < c.args.count → c.min-each.result ≡ most_of c.args.call comm.size = λ more. search rules in
    let given : c.deref.result.now ≡ cut gives c.args.count c.loop-first.first c.min-each.result c.args.items.now = search rules in
    let more : c.push.new.self.items ≡ c.loop-first.parts.items ++ c.in_ok-part.part ∷ [] = search rules in
    record {
      same = c.in_ok-part.ensures.same ∙ so_far.same;
      world = c.in_ok-part.ensures.kept.0 ∙ so_far.world;
      turns = c.in_ok-part.ensures.kept.1 ∙ so_far.turns;
      within = fits;
      parts = goes_on (λ h. host.goes_by h []) host.node host.turned host.turn_refused comm.name (λ count part. part_line c.args.call g.T.Item.ty count (numbers part)) numbers _ _ _ gives _ _ _ _ c.deref.result.now _ _ c.in_ok-part.part _ _ _
          so_far.parts whole fits few some last given so_far.turns c.in_ok-part.ensures.gives more;
    }

pub returns-clause-gives : goal.returns-clause-gives
returns-clause-gives g c =
    let host = g.H.Host in
    let numbers = g.T.Item.numbers in
    let comm = c.args.comm.now in
    let gives = blocks_given c.args.call comm.rank comm.size in
    let whole : length c.args.items.now ≡ gives * c.args.count = search rules in
    let all : c.loop-first.first ≡ c.args.count = search rules in
    let list : c.in_ok-list.list.items ≡ put_together (blocks_got c.args.call comm.size) (lists_of c.loop-first.parts.items) = search rules in
    let ended = no_more (λ h. host.goes_by h []) host.node host.turned host.turn_refused comm.name (λ count part. part_line c.args.call g.T.Item.ty count (numbers part)) numbers _ _ _ gives (blocks_got c.args.call comm.size) _ _ _ _ _ _ _
    c.loop-first.invariant.parts all whole c.in_ok-agree.ensures.kept.1 list in
    (c.agree.new.self.desk.now, ended.0, c.in_ok-agree.ensures.agreed, ended.1, ended.2)
