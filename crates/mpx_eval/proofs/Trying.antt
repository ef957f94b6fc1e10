-- What the posts of a statement come to on a table.
use Rattle.std.proofs.Common.{◌≡◌, ℕ, ℤ, List, Option, Some, None, sym, ap, ◌∙◌, subst, length}
use Rattle.std.specs.Prelude.{Result}
use Rattle.mpx_num.specs.declared.own.Operation.{Operation}
use Rattle.mpx_name.specs.Name.{Name}
use Rattle.mpx_post.specs.declared.draft.Draft.{Draft}
use Rattle.mpx_post.specs.declared.draft.PostError.{PostError}
use Rattle.mpx_birth.specs.Births.{BirthView}
use Rattle.mpx_post.specs.Gatherings.{gathering}
use Rattle.mpx_value.specs.Histories.{birth_of, has_freed, history_of}
use Rattle.mpx_statement.specs.declared.statement.Posting.{Posting}
use Rattle.mpx_statement.specs.Statements.{Gathers, draft_of, gathers_of}
use Rattle.mpx_meaning.specs.Ranks.{attempt_in, post_gathered, post_on}
use Rattle.mpx_rank.specs.Places.{CommunicatorView, attempt_by}
use Rattle.mpx_eval.specs.Places.{IsBornSo}
use Rattle.mpx_eval.specs.Tables.{Posted, TableShows, Table, TableTries, TriesOn}

module _ (ops : List Operation) (me : ℕ) (draft : Draft) where
  -- a post on a context is one under each of its names, and on each birth that it has
  pub tries_as : (name other : Name) (birth born : BirthView) (result : Result (Name × ℕ) PostError) (old new : Table) → TriesOn ops me draft name birth result old new → name ≡ other → birth ≡ born → TriesOn ops me draft other born result old new
  tries_as name other birth born result old new tried same is = subst (λ (c : Name × BirthView). TriesOn ops me draft c.0 c.1 result old new) (λ i. (same i, is i)) tried

  module _ (posting : Posting) (on : Option CommunicatorView) (c : CommunicatorView) (is : on ≡ Some c) (says : draft ≡ draft_of posting) (result : Result (Name × ℕ) PostError) (old new : Table) where
    -- a statement that gathers nobody posts on its communicator
    pub tries_call : gathers_of posting ≡ None → TriesOn ops me draft c.0 c.1 result old new → (ranks : ℕ) (made : Posted) → TableShows ops ranks old made → IsBornSo ops ranks made on → TableTries ops ranks made me (attempt_by ops me (made me) posting on) result new
    tries_call none tried ranks made shows born =
        subst (λ r. TableTries ops ranks made me r result new) (sym (ap (attempt_by ops me (made me) posting) is ∙ λ i. attempt_in ops me (made me) (sym says i) (none i) c.0 c.1)) (tried ranks made shows (born c is))

    -- and one that gathers members on their gathering
    pub tries_gathering : (g : Gathers) → gathers_of posting ≡ Some g → (given : List ℤ) → given ≡ g.ranks
        → ((ranks : ℕ) (made : Posted) → TableShows ops ranks old made → birth_of (history_of ops made) ranks c.0 ≡ Some c.1 → TableTries ops ranks made me (post_gathered ops me (made me) draft c.0 (gathering c.1 me (length c.0) (has_freed c.0 (made me)) g.tag given)) result new)
        → (ranks : ℕ) (made : Posted) → TableShows ops ranks old made → IsBornSo ops ranks made on → TableTries ops ranks made me (attempt_by ops me (made me) posting on) result new
    tries_gathering g some given same tried ranks made shows born =
        subst (λ r. TableTries ops ranks made me r result new)
        (ap (λ rs. post_gathered ops me (made me) draft c.0 (gathering c.1 me (length c.0) (has_freed c.0 (made me)) g.tag rs)) same
        ∙ sym (ap (attempt_by ops me (made me) posting) is ∙ λ i. attempt_in ops me (made me) (sym says i) (some i) c.0 c.1))
        (tried ranks made shows (born c is))
