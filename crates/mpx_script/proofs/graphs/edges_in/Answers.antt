use Rattle.std.proofs.Common.{◌≡◌, ◌==◌, ◌∷◌, ◌++◌, [], None, Some, rules, tests, sym, ap, ◌∙◌}
use Rattle.std.proofs.lemmas.Iterator.Consumers.{YieldsList-at, YieldsList-turn, YieldsList-end}
use Rattle.std.proofs.lemmas.Iterator.Splits.{YieldsList-from_slice_split}
use Rattle.std.proofs.lemmas.List.{map_push}
use Rattle.mpx_post.specs.Rows.{all_of}
use Rattle.mpx_script.specs.Graphs.{edge_named}
use Rattle.mpx_statement.proofs.Entries.{all_of_none, all_of_push}
use Rattle.mpx_script.proofs.Entries.{none_in, some_in}
use Rattle.mpx_script.proofs.graphs.edges_in.Goals as goal

pub returns-then-has_no_entries : goal.returns-then-has_no_entries
returns-then-has_no_entries c = rw (none_in c.args.word.now (search rules)) (search rules)

pub returns-in_default : goal.returns-in_default
returns-in_default c =
    let turn = YieldsList-turn (YieldsList-at c.into_iter-entry-iterator.ensures.into_iter_gives (YieldsList-from_slice_split _ (λ byte. byte == 44) c.args.word.now c.split-entry-items.ensures.rest c.split-entry-items.ensures.done c.split-entry-items.ensures.closure (λ x r q k. search (rules, tests)))) c.loop-entry.yielded _ c.loop-entry.yielded_by _ _ c.in-Some.entry c.in-Some.is c.next.ensures.steps in
    let strange : edge_named c.args.weighted c.in-Some.entry.now ≡ None = search rules in
    sym (ap (all_of (edge_named c.args.weighted)) (some_in c.args.word.now (search rules)) ∙ all_of_none (edge_named c.args.weighted) _ _ c.in-Some.entry.now turn.0 (ap (edge_named c.args.weighted) (sym turn.1) ∙ strange))

pub loop-entry-preserved : goal.loop-entry-preserved
loop-entry-preserved c =
    let pushed : c.push.new.self.items ≡ c.loop-entry.edges.items ++ c.in-Some-edge_named.edge ∷ [] = search rules in
    ap (all_of (edge_named c.args.weighted)) (map_push (λ entry. entry.now) c.loop-entry.yielded c.in-Some.entry) ∙ all_of_push (edge_named c.args.weighted) _ c.loop-entry.edges.items c.in-Some.entry.now c.in-Some-edge_named.edge c.loop-entry.invariant (search rules) ∙ ap Some (sym pushed)

pub returns : goal.returns
returns c =
    let end = YieldsList-end (YieldsList-at c.into_iter-entry-iterator.ensures.into_iter_gives (YieldsList-from_slice_split _ (λ byte. byte == 44) c.args.word.now c.split-entry-items.ensures.rest c.split-entry-items.ensures.done c.split-entry-items.ensures.closure (λ x r q k. search (rules, tests)))) c.loop-entry.yielded _ c.loop-entry.yielded_by _ _ c.in-None.is c.next.ensures.steps in
    sym c.loop-entry.invariant ∙ ap (all_of (edge_named c.args.weighted)) (end.0 ∙ sym (some_in c.args.word.now (search rules)))
