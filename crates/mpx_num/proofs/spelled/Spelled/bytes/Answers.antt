use Rattle.std.proofs.Common.{◌≡◌, length, take, sym, ap, ◌∙◌, rules}
use Rattle.std.specs.List.{flat_map}
use Rattle.mpx_num.specs.Spelling.{bytes_of}
use Rattle.mpx_num.specs.KeptSpelled.{kept_bytes}
use Rattle.mpx_num.proofs.Spellings.{length-spelled, most_numbers}
use Rattle.mpx_num.proofs.spelled.Spelled.bytes.Goals as goal

pub returns-in-Few-clause-spelling : goal.returns-in-Few-clause-spelling
returns-in-Few-clause-spelling c =
    let is : kept_bytes c.self.inside.kept ≡ take c.in-Few.len c.in-Few.bytes = ap kept_bytes c.in-Few.is in
    sym is ∙ sym c.self.invariant.spelling ∙ ap (λ items. flat_map (bytes_of items.ty) items.nums) c.self.view_is

pub returns-in-Few-clause-len : goal.returns-in-Few-clause-len
returns-in-Few-clause-len c =
    let is : kept_bytes c.self.inside.kept ≡ take c.in-Few.len c.in-Few.bytes = ap kept_bytes c.in-Few.is in
    let spelled = sym is ∙ sym c.self.invariant.spelling ∙ ap (λ items. flat_map (bytes_of items.ty) items.nums) c.self.view_is in
    ap length spelled ∙ length-spelled c.args.self.now.ty c.args.self.now.nums

pub returns-in-Shared-clause-spelling : goal.returns-in-Shared-clause-spelling
returns-in-Shared-clause-spelling c =
    let is : kept_bytes c.self.inside.kept ≡ c.as_slice.result.now = ap kept_bytes c.in-Shared.is ∙ search rules in
    sym is ∙ sym c.self.invariant.spelling ∙ ap (λ items. flat_map (bytes_of items.ty) items.nums) c.self.view_is

pub returns-in-Shared-clause-len : goal.returns-in-Shared-clause-len
returns-in-Shared-clause-len c =
    let is : kept_bytes c.self.inside.kept ≡ c.as_slice.result.now = ap kept_bytes c.in-Shared.is ∙ search rules in
    let spelled = sym is ∙ sym c.self.invariant.spelling ∙ ap (λ items. flat_map (bytes_of items.ty) items.nums) c.self.view_is in
    ap length spelled ∙ length-spelled c.args.self.now.ty c.args.self.now.nums

pub returns-in-Few-clause-most : goal.returns-in-Few-clause-most
returns-in-Few-clause-most c = most_numbers c.args.self.now.ty c.args.self.now.nums _ (returns-in-Few-clause-len c)

pub returns-in-Shared-clause-most : goal.returns-in-Shared-clause-most
returns-in-Shared-clause-most c = most_numbers c.args.self.now.ty c.args.self.now.nums _ (returns-in-Shared-clause-len c)
