use Rattle.std.proofs.Common.{◌≡◌, ◌*◌, ◌<◌, pos, get_or, length, take, drop, to_z, of_z, sym, ap, subst, ◌∙◌, rules}
use Rattle.std.specs.Int.{w128}
use Rattle.std.proofs.lemmas.Int.{to_z-of_z}
use Rattle.mpx_num.specs.Spelling.{number_in, number_len, numbers_in}
use Rattle.mpx_num.proofs.Spellings.{number_of_items}
use Rattle.mpx_num.proofs.spelled.Spelled.number_of.Goals as goal

pub returns-clause-value : goal.returns-clause-value
returns-clause-value c =
    let bytes = c.bytes.result.now in
    let ty = c.args.ty in
    let nums = c.args.self.now.nums in
    let place = c.args.place in
    let same : to_z w128 (of_z w128 c.number_at.result) ≡ c.number_at.result = to_z-of_z w128 c.number_at.result (search rules) in
    let spelled : numbers_in ty bytes ≡ nums = ap (λ t. numbers_in t bytes) (sym c.requires.ty) ∙ c.bytes.ensures.spelled in
    let lt : place < length (numbers_in ty bytes) = subst (λ l. place < length l) (sym spelled) c.requires.place in
    let there : get_or (numbers_in ty bytes) place (pos 0) ≡ number_in ty (take (number_len ty) (drop (place * number_len ty) bytes)) = number_of_items ty bytes place (pos 0) lt in
    let read : c.number_at.result ≡ number_in ty (take (number_len ty) (drop (place * number_len ty) bytes)) = search rules in
    same ∙ read ∙ sym there ∙ ap (λ l. get_or l place (pos 0)) spelled
