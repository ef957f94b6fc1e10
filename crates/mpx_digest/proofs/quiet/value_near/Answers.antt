-- The value at the key's place is the one that is found.
use Rattle.std.proofs.Common.{Some, ap, sym, ◌∙◌}
use Rattle.std.specs.Option.{option_map}
use Rattle.std.specs.FinMap.{find, get-entries}
use Rattle.join_nest.specs.Seen.{keyed_view}
use Rattle.join_nest.proofs.Places.{find_at, holds}
use Rattle.join_nest.proofs.Steps.{find_seen}
use Rattle.mpx_digest.proofs.quiet.value_near.Goals as goal

pub returns-in-Equal : goal.returns-in-Equal
returns-in-Equal g c =
    let es = c.entries-entries.result.now in
    let key = c.args.key.now in
    let same = ap (λ e. g.K.Ord.cmp e.0 key) (sym c.index-entries-at.is) ∙ sym c.cmp.ensures ∙ c.in-Equal.is in
    ap (λ e. Some (g.J.Exact.view e.1)) c.index-entries-at.is ∙ sym (
    get-entries (keyed_view g.K.Ord.cmp g.J.Exact.view c.args.map.now.entries.items) key
    ∙ ap (find g.K.Ord.cmp key) (sym c.entries-entries.ensures.entries)
    ∙ find_seen g.K.Ord.cmp g.J.Exact.view key es
    ∙ ap (option_map g.J.Exact.view) (find_at g.met.K.Ord.total key es c.args.at c.index-entries-at.result (holds _ c.entries-entries.ensures.rising) c.if-at-entries.true same)
    )
