-- Worked rows: calls that make communicators, and gatherings (MPI 4.1 section 7.4.2).
use Rattle.std.proofs.Common.{◌≡◌, ℕ, Bool, true, false, List, [], ◌∷◌, ℤ, pos, negsuc, Option, Some, None, Ok, Err, refl}
use Rattle.mpx_num.specs.declared.operations.Op.TheVariants.{Sum}
use Rattle.mpx_num.specs.declared.types.Ty.TheVariants.{I32}
use Rattle.mpx_post.specs.declared.draft.At.{At}
use Rattle.mpx_post.specs.declared.draft.Draft.{Draft}
use Rattle.mpx_post.specs.declared.draft.PostError.TheVariants.{BadGroup, BadTag, Closed, DepthUsedUp, NotMember}
use Rattle.mpx_kind.specs.declared.kinds.Kind.{Kind}
use Rattle.mpx_kind.specs.declared.kinds.Kind.TheVariants as K
use Rattle.mpx_kind.specs.declared.kinds.Exchange.TheVariants as E
use Rattle.mpx_kind.specs.declared.kinds.NewCommunicator.TheVariants as N
use Rattle.mpx_kind.specs.declared.kinds.Neighbourhood.TheVariants as H
use Rattle.mpx_post.specs.declared.making.Making.TheVariants as Making
use Rattle.mpx_birth.specs.Births.{BirthView, of_members}
use Rattle.mpx_post.specs.Drafts.{checked}
use Rattle.mpx_post.specs.Gatherings.{gathering}
use Rattle.mpx_kind.specs.Kinds.{blocking}
use Rattle.mpx_post.specs.Posts.{nothing_given}

-- four members
abbrev four : BirthView
four = of_members (0 ∷ 1 ∷ 2 ∷ 3 ∷ [])

-- the first call of a context with so many steps
abbrev first_on : (depth : ℕ) (gathering : Bool) → At
first_on depth gathering = record { call = 0; depth = depth; closed = false; gathering = gathering }

-- the call behind a free
abbrev behind_free : At
behind_free = record { call = 1; depth = 1; closed = true; gathering = false }

abbrev drafted : Kind → Option ℤ → (key : ℤ) → List ℤ → Draft
drafted kind colour key group = record { call = blocking kind; root = pos 0; op = Sum; ty = I32; scounts = []; rcounts = []; items = []; colour = colour; key = key; group = group; graph = None }

-- POSTS

dup : checked [] four 2 (first_on 7 false) (drafted (K.NewCommunicator N.Dup) None (pos 0) []) ≡ Ok (record nothing_given { kind = K.NewCommunicator N.Dup })
unfolding checked
dup = refl

dup_too_deep : checked [] four 2 (first_on 8 false) (drafted (K.NewCommunicator N.Dup) None (pos 0) []) ≡ Err DepthUsedUp
unfolding checked
dup_too_deep = refl

greatest_colour : checked [] four 2 (first_on 0 false) (drafted (K.NewCommunicator N.Split) (Some (pos 2147483647)) (negsuc 0) []) ≡ Ok (record nothing_given { kind = K.NewCommunicator N.Split; making = Making.Split (Some 2147483647) (negsuc 0) })
unfolding checked
greatest_colour = refl

colour_beyond : checked [] four 2 (first_on 0 false) (drafted (K.NewCommunicator N.Split) (Some (pos 2147483648)) (pos 0) []) ≡ Err BadTag
unfolding checked
colour_beyond = refl

group_in_its_order : checked [] four 2 (first_on 0 false) (drafted (K.NewCommunicator N.Create) None (pos 0) (pos 3 ∷ pos 0 ∷ [])) ≡ Ok (record nothing_given { kind = K.NewCommunicator N.Create; making = Making.Group (3 ∷ 0 ∷ []) })
unfolding checked
group_in_its_order = refl

rank_twice : checked [] four 2 (first_on 0 false) (drafted (K.NewCommunicator N.Create) None (pos 0) (pos 1 ∷ pos 1 ∷ [])) ≡ Err BadGroup
unfolding checked
rank_twice = refl

no_gathering : checked [] four 2 (first_on 1 false) (drafted (K.NewCommunicator N.CreateGroup) None (pos 0) []) ≡ Err BadGroup
unfolding checked
no_gathering = refl

barrier_on_a_gathering : checked [] four 2 (first_on 1 true) (drafted (K.Exchange E.Barrier) None (pos 0) []) ≡ Err BadGroup
unfolding checked
barrier_on_a_gathering = refl

free : checked [] four 2 (first_on 0 false) (drafted K.Free None (pos 0) []) ≡ Ok (record nothing_given { kind = K.Free })
unfolding checked
free = refl

free_on_a_gathering : checked [] four 2 (first_on 1 true) (drafted K.Free None (pos 0) []) ≡ Err BadGroup
unfolding checked
free_on_a_gathering = refl

free_twice : checked [] four 2 behind_free (drafted K.Free None (pos 0) []) ≡ Err Closed
unfolding checked
free_twice = refl

closed_before_topology : checked [] four 2 behind_free (drafted (K.Neighbourhood H.Allgather) None (pos 0) []) ≡ Err Closed
unfolding checked
closed_before_topology = refl

no_member_before_closed : checked [] four 4 behind_free (drafted (K.Exchange E.Barrier) None (pos 0) []) ≡ Err NotMember
unfolding checked
no_member_before_closed = refl

-- GATHERINGS

two_of_four : gathering four 2 0 false (pos 5) (pos 0 ∷ pos 2 ∷ []) ≡ Ok (record { tag = 5; members = 0 ∷ 2 ∷ [] })
unfolding gathering
two_of_four = refl

without_the_caller : gathering four 2 0 false (pos 5) (pos 0 ∷ pos 1 ∷ []) ≡ Err BadGroup
unfolding gathering
without_the_caller = refl

of_none : gathering four 2 0 false (pos 5) [] ≡ Err BadGroup
unfolding gathering
of_none = refl

tag_beyond : gathering four 2 0 false (pos 32768) (pos 2 ∷ []) ≡ Err BadTag
unfolding gathering
tag_beyond = refl

too_deep_first : gathering four 2 8 false (pos 5) [] ≡ Err DepthUsedUp
unfolding gathering
too_deep_first = refl

closed_first : gathering four 2 8 true (pos 5) [] ≡ Err Closed
unfolding gathering
closed_first = refl
