-- What a statement of a script posts or asks for, on which communicator, and what it binds.
use Rattle.std.specs.Prelude.{ℕ, ℤ, List, [], ◌∷◌, Option, Some, None}
use Rattle.mpx_post.specs.declared.draft.Draft.{Draft}
use Rattle.mpx_post.specs.Drafts.{empty_draft}
use Rattle.mpx_kind.specs.declared.kinds.Call.TheVariants as C
use Rattle.mpx_kind.specs.declared.kinds.NewCommunicator.TheVariants as N
use Rattle.mpx_statement.specs.declared.statement.Posting.{Posting}
use Rattle.mpx_statement.specs.declared.statement.Posting.TheVariants.{Call, Start, New, CreateGroup}
use Rattle.mpx_statement.specs.declared.statement.Question.{Question}
use Rattle.mpx_statement.specs.declared.statement.Question.TheVariants.{Neighbours, Compare, Translate}
use Rattle.mpx_statement.specs.declared.statement.Statement.{Statement}
use Rattle.mpx_statement.specs.declared.statement.Statement.TheVariants.{Post, Wait, Ask}

-- the draft of create_group, whose kind has no fields
abbrev pub create_group_draft : Draft
create_group_draft = empty_draft (C.NewCommunicator N.CreateGroup)

-- the draft that it posts
abbrev pub draft_of : Posting → Draft
draft_of (Call on draft) = draft
draft_of (Start on draft request) = draft
draft_of (New on draft to) = draft
draft_of (CreateGroup on tag ranks to) = empty_draft (C.NewCommunicator N.CreateGroup)

abbrev pub drafted_by : Statement → Option Draft
drafted_by (Post posting) = Some (draft_of posting)
drafted_by statement = None

-- the word of the communicator on which it is posted
abbrev pub communicator_word : Posting → List ℕ
communicator_word (Call on draft) = on
communicator_word (Start on draft request) = on
communicator_word (New on draft to) = on
communicator_word (CreateGroup on tag ranks to) = on

-- the words of communicators that it asks about
abbrev pub asked_about : Question → List (List ℕ)
asked_about (Neighbours on side) = on ∷ []
asked_about (Compare first second) = first ∷ second ∷ []
asked_about (Translate from to ranks) = from ∷ to ∷ []

-- the words of communicators, and those of requests, that a statement uses

abbrev pub communicators_of : Statement → List (List ℕ)
communicators_of (Post posting) = communicator_word posting ∷ []
communicators_of (Wait requests) = []
communicators_of (Ask question) = asked_about question

abbrev pub requests_of : Statement → List (List ℕ)
requests_of (Wait requests) = requests
requests_of statement = []

-- the word that it binds to a new communicator

abbrev pub bound_to : Posting → Option (List ℕ)
bound_to (New on draft to) = Some to
bound_to (CreateGroup on tag ranks to) = Some to
bound_to posting = None

abbrev pub target_of : Statement → Option (List ℕ)
target_of (Post posting) = bound_to posting
target_of statement = None

-- the word that it binds to its request

abbrev pub started_as : Posting → Option (List ℕ)
started_as (Start on draft request) = Some request
started_as posting = None

abbrev pub request_of : Statement → Option (List ℕ)
request_of (Post posting) = started_as posting
request_of statement = None

-- a tag, and ranks of the members that gather
pub record Gathers : Type 0 where
  pub tag : ℤ
  pub ranks : List ℤ

-- which gathering of its communicator's members it opens to post there
abbrev pub gathers_of : Posting → Option Gathers
gathers_of (CreateGroup on tag ranks to) = Some (record { tag = tag; ranks = ranks })
gathers_of posting = None
