use Rattle.std.proofs.Common.{rules, ◌≡◌, ◌+◌, ◌++◌, ◌∷◌, [], take, sym, ap, ◌∙◌}
use Rattle.std.specs.List.{flat_map}
use Rattle.std.proofs.lemmas.List.{take_more, flat_map_more}
use Rattle.mpx_call.specs.Parts.{block_in}
use Rattle.mpx_call.proofs.cutting.put_block.Goals as goal

pub loop-part-preserved : goal.loop-part-preserved
loop-part-preserved g c =
    let i = c.loop-part.part-index in
    let parts = c.args.parts.now in
    let part = c.part-item.result in
    let old = c.args.whole.now.items in
    let one : take (i + 1) parts ≡ take i parts ++ part ∷ [] = take_more parts i part c.loop-part-test.true ∙ ap (λ x. take i parts ++ x ∷ []) (sym c.part-item.is) in
    let more : c.extend_from_slice.new.self.items ≡ c.loop-part.whole.items ++ block_in c.args.blocks c.args.number part.items = search rules in
    more ∙ ap (λ l. l ++ block_in c.args.blocks c.args.number part.items) c.loop-part.invariant
    ∙ flat_map_more (λ p. block_in c.args.blocks c.args.number p.items) old (take i parts) part
    ∙ ap (λ l. old ++ flat_map (λ p. block_in c.args.blocks c.args.number p.items) l) (sym one)
