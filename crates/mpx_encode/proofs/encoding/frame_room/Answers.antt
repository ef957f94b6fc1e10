use Rattle.std.proofs.Common.{◌≡◌, ◌-◌, true, false, cond, length, Some, None, sym, ap, ◌∙◌}
use Rattle.mpx_board.specs.Views.{view_of_parts}
use Rattle.mpx_format.specs.declared.versions.Version.TheVariants.{Two}
use Rattle.mpx_format.specs.Contexts.{frame}
use Rattle.mpx_format.specs.Decoding.{most_bytes}
use Rattle.mpx_format.specs.Encoding.{has_many_names}
use Rattle.mpx_encode.proofs.Encoded.{long_by_names, room_told, few_left}
use Rattle.mpx_encode.proofs.encoding.frame_room.Goals as goal

pub returns-then-has_many_names-clause-value : goal.returns-then-has_many_names-clause-value
returns-then-has_many_names-clause-value c =
    let v = view_of_parts c.args.parts.now in
    let many : has_many_names v ≡ true = sym c.has_many_names.ensures ∙ c.if-has_many_names.true in
    sym (ap (λ b. cond b None (Some (most_bytes - length (frame.spelling (Two, v))))) (long_by_names v many))

pub returns-clause-value : goal.returns-clause-value
returns-clause-value c =
    let v = view_of_parts c.args.parts.now in
    let few : has_many_names v ≡ false = sym c.has_many_names.ensures ∙ c.if-has_many_names.false in
    c.room_after_frame.ensures.value ∙ room_told v few

pub returns-clause-few : goal.returns-clause-few
returns-clause-few c =
    let v = view_of_parts c.args.parts.now in
    few_left (length (frame.spelling (Two, v))) most_bytes c.room_after_frame.result c.room_after_frame.ensures.value
