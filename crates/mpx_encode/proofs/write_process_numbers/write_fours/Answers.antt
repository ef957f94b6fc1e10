-- Four more are written, and four fewer left.
use Rattle.std.proofs.Common.{◌≡◌, ◌++◌, ℕ, sym, ap, append_assoc, drop, take, ◌∙◌}
use Rattle.std.proofs.lemmas.List.{map-append, take-append-drop}
use Rattle.std.proofs.lemmas.Grind.{flat_map-append}
use Rattle.join_core.specs.declared.max.Max.{Max}
use Rattle.join_nest.specs.Seen.{seen}
use Rattle.mpx_format.specs.Fields.{process, some_calls}
use Rattle.mpx_encode.specs.Entries.{entries_spelled, entry_spelled}
use Rattle.mpx_encode.proofs.write_process_numbers.write_fours.Goals as goal

abbrev says : Max → ℕ
says n = n.0

pub loop-four-preserved : goal.loop-four-preserved
loop-four-preserved c =
    let s = entry_spelled process some_calls in
    let rest = c.loop-four.rest.now in
    let front = entries_spelled process some_calls (seen says (take 4 rest)) in
    let back = entries_spelled process some_calls (seen says (drop 4 rest)) in
    let both : (front ++ back) ≡ entries_spelled process some_calls (seen says rest) =
    sym (flat_map-append s (seen says (take 4 rest)) (seen says (drop 4 rest)))
    ∙ ap (entries_spelled process some_calls) (sym (map-append (λ (e : ℕ × Max). (e.0, says e.1)) (take 4 rest) (drop 4 rest)) ∙ ap (seen says) (take-append-drop 4 rest)) in
    let split = c.in-Some.ensures.cases in
    rw (c.in_ok-extend_from_slice.ensures.ok, c.four_bytes.ensures, split.0, split.1) (append_assoc c.loop-four.out front back ∙ ap (λ l. c.loop-four.out ++ l) both ∙ c.loop-four.invariant)
