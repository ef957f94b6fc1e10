-- A statement that is tried again, since nothing could be posted before.
use Rattle.std.proofs.Common.{◌≡◌, ℕ, ◌+◌, List, Option, Some, None, ◌∙◌, subst}
use Rattle.std.specs.Prelude.{Result, Ok}
use Rattle.mpx_name.specs.Name.{Name}
use Rattle.mpx_birth.specs.Births.{BirthView}
use Rattle.mpx_post.specs.declared.draft.PostError.{PostError}
use Rattle.mpx_value.specs.Histories.{Made}
use Rattle.mpx_bus.specs.declared.act.Setup.{Setup}
use Rattle.mpx_rank.specs.Carriers.{placed}
use Rattle.mpx_ticket.specs.declared.ticket.Ticket.{Ticket}
use Rattle.mpx_threads.specs.ToldCalls.{PostsAs, Tried, first_posts, place_of, planned_birth}

-- as many posts were made as before, where the context came to be
abbrev pub Unposted : Setup → Name → (old new : ℕ) → Type 0
Unposted setup name old new = (birth : BirthView) → planned_birth setup name ≡ Some birth → new ≡ old

module _ (setup : Setup) (me before : ℕ) (name : Name) (old now : ℕ) (same : Unposted setup name old now) where
  -- what an attempt comes to it would have come to at first
  pub tries_still : (outcome : List Made → BirthView → Result Made PostError) (result : Result (Option Ticket) PostError) (new : ℕ) → PostsAs setup me before name outcome result now new → PostsAs setup me before name outcome result old new
  tries_still outcome result new posts birth born = subst (λ n. Tried (first_posts setup me (before + n)) (outcome (first_posts setup me (before + n)) birth) (placed place_of result) n new) (same birth born) (posts birth born)

  -- and where nothing was posted again, there is nothing yet
  pub unposted_still : (outcome : List Made → BirthView → Result Made PostError) (new : ℕ) → PostsAs setup me before name outcome (Ok None) now new → Unposted setup name old new
  unposted_still outcome new posts birth born = posts birth born ∙ same birth born
