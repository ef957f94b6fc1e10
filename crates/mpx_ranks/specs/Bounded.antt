-- A port has no more results than posts.
use Rattle.std.specs.Prelude.{◌≡◌, ◌<◌, ◌≤◌, ◌++◌, ℕ, Bool, true, false, cond, List, [], ◌∷◌, length, Option, Some, None, Result, Ok, Err, nat_lt}
use Rattle.std.specs.Option.{option_map}
use Rattle.std.proofs.Common.{refl, subst, sym, arith}
use Rattle.std.proofs.lemmas.Bool.Decides.{nat_tests}
use Rattle.std.proofs.lemmas.List.{length-append}
use Rattle.mpx_board.specs.Boards.{Look}
use Rattle.mpx_board.specs.Changes.{pruned_on}
use Rattle.mpx_board.specs.declared.errors.PruneError.{PruneError}
use Rattle.mpx_bus.specs.Acts.{act_on, after, at_start}
use Rattle.mpx_bus.specs.declared.act.Act.{Act}
use Rattle.mpx_bus.specs.declared.act.Act.TheVariants as A
use Rattle.mpx_bus.specs.Ports.{PortView, node_in}
use Rattle.mpx_name.specs.Name.{Name, same_name}
use Rattle.mpx_name.specs.Order.{name_equality}
use Rattle.mpx_node.proofs.Forgotten.{front_forgotten, posted_forgotten}
use Rattle.mpx_node.specs.declared.finished.Finished.{Finished}
use Rattle.mpx_node.specs.Nodes.{OpenedView, checked_on, fresh, front_on, gathers_on, is_new_to, next_of, next_result, or_new, posted_by, posted_on, posts_more, result_of, results_by}
use Rattle.mpx_num.specs.declared.own.Operation.{Operation}
use Rattle.mpx_post.specs.declared.draft.PostError.{PostError}
use Rattle.mpx_post.specs.Gatherings.{GatheringView}
use Rattle.mpx_post.specs.Posts.{Given}
use Rattle.mpx_world.specs.Drafted.{makes_checked}
use Rattle.mpx_world.specs.Worlds.{ProcessView, drops, made_next, opens_gathering, stores, takes}

-- on each context there are no more results than posts
abbrev IsBounded : (Name → Option OpenedView) → Type 0
IsBounded opened = (name : Name) → length (results_by (opened name)) ≤ posted_by (opened name)

posts_bounded : (given : Given) (b : Bool) (o : Option OpenedView) → length (results_by o) ≤ posted_by o → length (results_by (cond b (option_map (posts_more given) o) o)) ≤ posted_by (cond b (option_map (posts_more given) o) o)
posts_bounded given true None l = l
posts_bounded given true (Some o) l = omega (arith, l)
posts_bounded given false o l = l

opens_bounded : (b : Bool) (o : Option OpenedView) → length (results_by o) ≤ posted_by o → length (results_by (cond b (Some (or_new o)) o)) ≤ posted_by (cond b (Some (or_new o)) o)
opens_bounded true None l = omega arith
opens_bounded true (Some o) l = l
opens_bounded false o l = l

-- a context that has a next result has more posts than results
has_more : (ops : List Operation) (o : Option OpenedView) (board : Look) (name : Name) (me : ℕ) (finished : Finished) → next_of ops o board name me ≡ Some finished → length (results_by o) < posted_by o
has_more ops None board name me finished e = cc e
has_more ops (Some o) board name me finished e = by_test (nat_lt (length o.results) o.posted) refl e where
  by_test : (b : Bool) → nat_lt (length o.results) o.posted ≡ b → cond b (result_of ops board name me (length o.results)) None ≡ Some finished → length o.results < o.posted
  by_test true t f = grind (arith, nat_tests, t)
  by_test false t f = cc f

abbrev with_result : Finished → OpenedView → OpenedView
with_result finished o = record o { results = o.results ++ Some finished ∷ [] }

stores_bounded : (finished : Finished) (b : Bool) (o : Option OpenedView) → (b ≡ true → length (results_by o) < posted_by o) → length (results_by o) ≤ posted_by o
    → length (results_by (cond b (option_map (with_result finished) o) o)) ≤ posted_by (cond b (option_map (with_result finished) o) o)
stores_bounded finished true None more l = l
stores_bounded finished true (Some o) more l = let m = more refl in let n = length-append o.results (Some finished ∷ []) in omega (arith, m, n)
stores_bounded finished false o more l = l

-- one act more
bounded_act : (ops : List Operation) (a : Act) (v : ProcessView) → IsBounded v.node.opened → IsBounded (act_on ops a v).node.opened
bounded_act ops (A.Posted name draft) v h = by_check (checked_on ops v.node name draft) where
  by_check : (r : Result Given PostError) → IsBounded (makes_checked name r v).node.opened
  by_check (Ok given) = λ n. posts_bounded given (same_name n name) (v.node.opened n) (h n)
  by_check (Err e) = h
bounded_act ops (A.Harvested name) v h = by_next (next_result ops v.node name) refl where
  by_next : (o : Option Finished) → next_result ops v.node name ≡ o → IsBounded (stores ops name o v).node.opened
  by_next None e = h
  by_next (Some finished) e = λ n.
      opens_bounded (is_new_to v.node.me (made_next ops name v.node) n) (cond (same_name n name) (option_map (with_result finished) (v.node.opened n)) (v.node.opened n))
      (stores_bounded finished (same_name n name) (v.node.opened n)
      (λ t. subst (λ x. length (results_by (v.node.opened x)) < posted_by (v.node.opened x)) (sym (name_equality.sound n name t)) (has_more ops (v.node.opened name) v.node.board name v.node.me finished e)) (h n))
bounded_act ops (A.Gathered parent tag ranks) v h = by_gathering (gathers_on v.node parent tag ranks) where
  by_gathering : (r : Result GatheringView PostError) → IsBounded (opens_gathering parent r v).node.opened
  by_gathering (Ok g) = λ n. opens_bounded _ (v.node.opened n) (h n)
  by_gathering (Err e) = h
bounded_act ops (A.Pruned name n) v h = by_prune (pruned_on v.node.board name n) where
  by_part : (o : Option Look) → IsBounded (takes o v).node.opened
  by_part None = h
  by_part (Some part) = h

  by_prune : (r : Result (Unit {0}) PruneError) → IsBounded (drops name n r v).node.opened
  by_prune (Ok u) = by_part _
  by_prune (Err e) = h
bounded_act ops (A.Forgot name below) v h = λ n.
    subst (λ (z : ℕ × ℕ). z.0 ≤ z.1) (λ i. (sym (front_forgotten name below v.node n) i, sym (posted_forgotten name below v.node n) i)) (h n)
bounded_act ops (A.Took bytes) v h = h
bounded_act ops (A.StoppedTaking bytes left) v h = h
bounded_act ops (A.Acknowledged board) v h = h
bounded_act ops (A.Pushed bytes) v h = h
bounded_act ops (A.Popped bytes) v h = h

bounded_after : (ops : List Operation) (acts : List Act) (v : ProcessView) → IsBounded v.node.opened → IsBounded (after ops acts v).node.opened
bounded_after ops [] v h = h
bounded_after ops (a ∷ acts) v h = bounded_after ops acts (act_on ops a v) (bounded_act ops a v h)

starts_bounded : (b : Bool) → length (results_by (cond b (Some fresh) None)) ≤ posted_by (cond b (Some fresh) None)
starts_bounded true = omega arith
starts_bounded false = omega arith

pub port_bounded : (b : PortView) (name : Name) → front_on (node_in b) name ≤ posted_on (node_in b) name
port_bounded b name = bounded_after b.setup.operations b.journal (at_start b.setup b.me) (λ n. starts_bounded _) name
