-- Which members may gather below a communicator, for the calls of MPI_COMM_CREATE_GROUP (MPI 4.1, section 7.4.2).
use Rattle.std.specs.Prelude.{◌≡◌, ℕ, ℤ, ◌||◌, Bool, not, nat_le, List, [], ◌∷◌, length, map, slice_index_or, Option, Some, None, Result, Ok, Err}
use Rattle.std.specs.List.{list_all}
use Rattle.mpx_group.specs.Group.{has, has_twice}
use Rattle.mpx_post.specs.declared.draft.PostError.{PostError}
use Rattle.mpx_post.specs.declared.draft.PostError.TheVariants.{NotMember, Closed, DepthUsedUp, BadGroup, BadTag, OutOfMemory}
use Rattle.mpx_birth.specs.Births.{BirthView, rank_in}
use Rattle.mpx_post.specs.Drafts.{most_steps, natural, naturals, is_rank, is_tag, first_that_holds, unless}

-- a tag, and the processes that gather, in their order
pub record GatheringView : Type 0 where
  pub tag : ℕ
  pub members : List ℕ

-- the processes at these ranks
abbrev pub members_at : List ℕ → List ℤ → List ℕ
members_at members ranks = map (λ r. slice_index_or members r 0) (naturals ranks)

-- a rank out of range, a member twice, or none of them the caller
abbrev pub is_bad_group : List ℕ → (me : ℕ) → List ℤ → Bool
is_bad_group members me ranks = not (list_all (is_rank (length members)) ranks) || (has_twice (members_at members ranks) || not (has (members_at members ranks) me))

-- why a member may not open this gathering below its communicator, whose name has so many steps, and where it has posted a
-- free or not, in the order in which it is told
abbrev pub gathering_refusals : List ℕ → (me depth : ℕ) → (closed : Bool) → (tag : ℤ) → List ℤ → List (Bool × PostError)
gathering_refusals members me depth closed tag ranks =
    (closed, Closed)
    ∷ (nat_le most_steps depth, DepthUsedUp)
    ∷ (is_bad_group members me ranks, BadGroup)
    ∷ (not (is_tag tag), BadTag)
    ∷ []

abbrev pub gathering_at : Option ℕ → List ℕ → (me depth : ℕ) → (closed : Bool) → (tag : ℤ) → List ℤ → Result GatheringView PostError
gathering_at None members me depth closed tag ranks = Err NotMember
gathering_at (Some rank) members me depth closed tag ranks = unless (first_that_holds (gathering_refusals members me depth closed tag ranks)) (record { tag = natural tag; members = members_at members ranks })

-- what the opening of a gathering with this tag and these ranks comes to: its first refusal, or the gathering
unfoldable pub gathering : BirthView → (me depth : ℕ) → (closed : Bool) → (tag : ℤ) → List ℤ → Result GatheringView PostError
gathering birth me depth closed tag ranks = gathering_at (rank_in me birth.members) birth.members me depth closed tag ranks

-- the refusal, or the gathering, or want of memory in its place
abbrev pub ChecksGathering : Result GatheringView PostError → Result GatheringView PostError → Type 0
ChecksGathering (Err refusal) answer = answer ≡ Err refusal
ChecksGathering (Ok gathering) (Ok made) = made ≡ gathering
ChecksGathering (Ok gathering) (Err e) = e ≡ OutOfMemory
