use Rattle.std.proofs.Common.{◌≡◌, ◌-◌, length, sym, ap, ◌∙◌, true, false, nat_le}
use Rattle.std.specs.Prelude.{◌&&◌}
use Rattle.std.specs.Option.{option_map_or}
use Rattle.mpx_node.specs.Nodes.{is_fine_free}
use Rattle.mpx_node.specs.Stored.{after_gone, stored_at}
use Rattle.mpx_node.proofs.Gone.{end_after}
use Rattle.mpx_node.proofs.opened.Opened.is_past_free.Goals as goal

pub returns-then-ends_by_free : goal.returns-then-ends_by_free
returns-then-ends_by_free c =
    let o = c.args.self.now in
    let results = after_gone o.gone o.results.items in
    let ends : option_map_or is_fine_free (stored_at results (length results - 1)) false ≡ true = ap (λ x. option_map_or is_fine_free x false) (end_after o.gone o.results.items) ∙ sym c.ends_by_free.ensures ∙ c.if-ends_by_free.true in
    ap (λ k. nat_le k c.args.number) c.front.ensures ∙ sym (ap (λ b. b && nat_le (length results) c.args.number) ends)

pub returns-else-ends_by_free : goal.returns-else-ends_by_free
returns-else-ends_by_free c =
    let o = c.args.self.now in
    let results = after_gone o.gone o.results.items in
    let ends : option_map_or is_fine_free (stored_at results (length results - 1)) false ≡ false = ap (λ x. option_map_or is_fine_free x false) (end_after o.gone o.results.items) ∙ sym c.ends_by_free.ensures ∙ c.if-ends_by_free.false in
    c.if-ends_by_free.false ∙ sym (ap (λ b. b && nat_le (length results) c.args.number) ends)
