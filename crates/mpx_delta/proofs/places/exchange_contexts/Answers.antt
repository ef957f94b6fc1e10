-- The keys stay, so a map is made of the entries again.
use Rattle.std.proofs.Common.{◌≡◌, true, subst, sym, ap, ◌∙◌}
use Rattle.join_nest.specs.Seen.{seen}
use Rattle.join_nest.proofs.Exchanges.{exchanged_sorted}
use Rattle.mpx_name.specs.Order.{name_cmp}
use Rattle.mpx_board.specs.Looks.{parts_of}
use Rattle.mpx_board.specs.Tidy.{is_tidy}
use Rattle.mpx_board.specs.Views.{view_of_all_acks, view_of_lifted}
use Rattle.mpx_delta.specs.Lean.{with_contexts}
use Rattle.mpx_delta.proofs.InPlace.{contexts_back, contexts_set}
use Rattle.mpx_delta.proofs.places.exchange_contexts.Goals as goal

pub from_rising-first-requires : goal.from_rising-first-requires
from_rising-first-requires c = exchanged_sorted name_cmp c.args.changes.now.values.items c.into_entries-contexts.result.items c.exchange.new.entries.items c.exchange.ensures.entries c.into_entries-contexts.ensures.rising

pub from_tidy-requires : goal.from_tidy-requires
from_tidy-requires c =
    let was = c.into_pair-first.ensures.value ∙ ap parts_of c.replace.ensures.value in
    subst (λ v. is_tidy v ≡ true) (sym (contexts_set view_of_lifted (parts_of c.args.board.now) c.into_entries-contexts.result.items c.exchange.new.entries.items c.args.changes.now.values.items _ (view_of_all_acks c.into_pair-first.result.second)
    (sym (ap (λ v. v.0) was) ∙ c.into_entries-contexts.ensures.entries) (ap (λ v. v.1) was) c.into_entries-contexts.ensures.rising c.exchange.ensures.entries c.from_rising-first.ensures)) c.requires

pub returns-clause-new : goal.returns-clause-new
returns-clause-new c =
    let was = c.into_pair-first.ensures.value ∙ ap parts_of c.replace.ensures.value in
    c.from_tidy.ensures
    ∙ contexts_set view_of_lifted (parts_of c.args.board.now) c.into_entries-contexts.result.items c.exchange.new.entries.items c.args.changes.now.values.items _ (view_of_all_acks c.into_pair-first.result.second)
    (sym (ap (λ v. v.0) was) ∙ c.into_entries-contexts.ensures.entries) (ap (λ v. v.1) was) c.into_entries-contexts.ensures.rising c.exchange.ensures.entries c.from_rising-first.ensures

pub returns-clause-back : goal.returns-clause-back
returns-clause-back c =
    let was = c.into_pair-first.ensures.value ∙ ap parts_of c.replace.ensures.value in
    ap (λ v. with_contexts v (seen view_of_lifted c.exchange.new.self.values.items)) c.from_tidy.ensures
    ∙ contexts_back view_of_lifted (parts_of c.args.board.now) c.into_entries-contexts.result.items c.exchange.new.entries.items c.args.changes.now.values.items _ (view_of_all_acks c.into_pair-first.result.second)
    (sym (ap (λ v. v.0) was) ∙ c.into_entries-contexts.ensures.entries) (ap (λ v. v.1) was) c.into_entries-contexts.ensures.rising c.exchange.ensures.entries c.from_rising-first.ensures
    c.exchange.new.self.values.items c.exchange.ensures.changes c.args.changes.now.rising
