-- On a freed context nobody needs anything any more.
use Rattle.std.proofs.Common.{◌≡◌, ℕ, ◌+◌, ◌<◌, length, Some, sym, ◌∙◌, subst, arith}
use Rattle.std.specs.Prelude.{slice_get}
use Rattle.std.proofs.lemmas.Option.{same_Some, slice_get_within}
use Rattle.mpx_name.specs.Name.{Name}
use Rattle.mpx_post.specs.Posts.{Given}
use Rattle.mpx_birth.specs.Births.{BirthView}
use Rattle.mpx_value.specs.Histories.{posts_on}
use Rattle.mpx_world.specs.Worlds.{WorldView, births, history, own_front}
use Rattle.mpx_world.specs.Soundness.{IsFreed, IsMember}
use Rattle.mpx_world.proofs.Freeing.{all_of_at}
use Rattle.mpx_world.proofs.Steps.{Holds}

-- a member has posted there only calls that each member has harvested: its free is its last
pub freed_harvested : (w : WorldView) → Holds w → (name : Name) → IsFreed w name → (p : ℕ) → IsMember w name p → (k : ℕ) (given : Given) → (history w).post name k p ≡ Some given → (birth : BirthView) → births w name ≡ Some birth → (rank q : ℕ) → slice_get birth.members rank ≡ Some q → k < own_front w name q
freed_harvested w s name f p m k given e birth born rank q is =
    let here : m.birth ≡ f.birth = same_Some m.birth f.birth (sym m.born ∙ f.born) in
    let there : birth ≡ f.birth = same_Some birth f.birth (sym born ∙ f.born) in
    let own = all_of_at ((history w).post name f.call) f.birth.members f.row f.whole m.rank p (subst (λ (b : BirthView). slice_get b.members m.rank ≡ Some p) here m.member) in
    let last : length (posts_on name (w.each p).made) ≡ f.call + 1 = (s.processes p).ends name f.call own.0 own.1 (f.frees m.rank own.0 own.2) in
    let within : k < length (posts_on name (w.each p).made) = slice_get_within (posts_on name (w.each p).made) k given e in
    let done : f.call < own_front w name q = f.harvested rank q (subst (λ (b : BirthView). slice_get b.members rank ≡ Some q) there is) in
    omega (arith, last, within, done)
