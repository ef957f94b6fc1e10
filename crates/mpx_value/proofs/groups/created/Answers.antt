use Rattle.std.proofs.Common.{◌≡◌, ◌∙◌, ◌+◌, ◌++◌, ◌∷◌, [], ℕ, List, Bool, true, false, length, map, cond, ap, sym, arith}
use Rattle.std.specs.Prelude.{filter}
use Rattle.std.proofs.lemmas.List.{append-nil}
use Rattle.mpx_group.specs.Group.{has_twice}
use Rattle.mpx_name.specs.declared.steps.Step.TheVariants.{Child}
use Rattle.mpx_name.specs.Name.{Name}
use Rattle.mpx_birth.specs.Births.{BirthView, of_members, upto}
use Rattle.mpx_post.specs.Posts.{group_of}
use Rattle.mpx_post.specs.Rows.{RowView}
use Rattle.mpx_value.specs.Children.{group_child, leads, named_children, processes}
use Rattle.mpx_value.proofs.Distinct.{group-distinct}
use Rattle.mpx_value.proofs.Ranks.{filter_upto, few_processes, given_ranks, named_push}
use Rattle.mpx_value.proofs.groups.created.Goals as goal
use Rattle.mpx_value.proofs.groups.created.Goals.{then-leads+in_ok-members+in_ok-child+in_ok-push, else-leads}

module _ (name : Name) (call : ℕ) (birth : BirthView) (row : RowView) (rank : ℕ) where
  made_upto : ℕ → List (Name × BirthView)
  made_upto n = named_children name call (map (group_child birth row) (filter (leads row) (upto n)))

  one_more : (before after : List (Name × BirthView)) → before ≡ made_upto rank → leads row rank ≡ true → after ≡ before ++ (Child call rank ∷ name, (group_child birth row rank).birth) ∷ [] → after ≡ made_upto (rank + 1)
  unfolding made_upto
  one_more before after b t a =
      a ∙ ap (λ (made : List (Name × BirthView)). made ++ (Child call rank ∷ name, (group_child birth row rank).birth) ∷ []) b
      ∙ sym (named_push name call (group_child birth row) (filter (leads row) (upto rank)) rank)
      ∙ ap (λ (ranks : List ℕ). named_children name call (map (group_child birth row) ranks)) (sym (filter_upto (leads row) rank ∙ ap (λ (b : Bool). filter (leads row) (upto rank) ++ cond b (rank ∷ []) []) t))

  none_more : (before : List (Name × BirthView)) → before ≡ made_upto rank → leads row rank ≡ false → before ≡ made_upto (rank + 1)
  unfolding made_upto
  none_more before b f =
      b ∙ ap (λ (ranks : List ℕ). named_children name call (map (group_child birth row) ranks)) (sym (filter_upto (leads row) rank ∙ ap (λ (b : Bool). filter (leads row) (upto rank) ++ cond b (rank ∷ []) []) f ∙ append-nil (filter (leads row) (upto rank))))

pub processes-requires-clause-within : goal.processes-requires-clause-within
processes-requires-clause-within c =
    given_ranks c.args.row.now c.loop-rank.rank _ _ c.requires.fine (omega arith) c.requires.members (c.group.ensures.value ∙ ap group_of c.post.ensures.value)

pub processes-requires-clause-differ : goal.processes-requires-clause-differ
processes-requires-clause-differ c =
    ap has_twice (c.group.ensures.value ∙ ap group_of c.post.ensures.value) ∙ group-distinct c.args.row.now c.loop-rank.rank c.requires.fine (omega arith)

pub child-requires-clause-few : goal.child-requires-clause-few
child-requires-clause-few c =
    let few = few_processes c.args.row.now c.loop-rank.rank c.args.birth.now.members _ c.requires.fine (omega arith) (c.group.ensures.value ∙ ap group_of c.post.ensures.value) in
    let made : length c.in_ok-members.members.items ≡ length (processes c.args.birth.now.members c.group.result.now) = ap length c.in_ok-members.ensures.value in
    omega (arith, few, made)

pub loop-rank-preserved : goal.loop-rank-preserved
unfolding made_upto
loop-rank-preserved c = elim c.if-leads.branch [
  | then-leads+in_ok-members+in_ok-child+in_ok-push w ↦
      let group = w.group.ensures.value ∙ ap group_of w.post.ensures.value in
      let child = w.in_ok-child.ensures ∙ ap (λ (members : List ℕ). let new : Name × BirthView = (Child c.args.call c.loop-rank.rank ∷ c.args.name.now, of_members members) in new) (w.in_ok-members.ensures.value ∙ ap (processes c.args.birth.now.members) group) in
      one_more c.args.name.now c.args.call c.args.birth.now c.args.row.now c.loop-rank.rank c.loop-rank.made.items c.if-leads.made.items c.loop-rank.invariant (sym c.leads.ensures ∙ w.if-leads.true)
      (ap (λ v. v.items) w.made-is ∙ w.in_ok-push.ensures.items ∙ ap (λ (new : Name × BirthView). c.loop-rank.made.items ++ new ∷ []) child)
  | else-leads w ↦
      ap (λ v. v.items) w.made-is ∙ none_more c.args.name.now c.args.call c.args.birth.now c.args.row.now c.loop-rank.rank c.loop-rank.made.items c.loop-rank.invariant (sym c.leads.ensures ∙ w.if-leads.false)
]
