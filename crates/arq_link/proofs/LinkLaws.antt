-- What holds of every reliable link.
use Rattle.std.specs.Prelude.{◌≡◌, ◌≤◌, length}
use Rattle.std.proofs.Common.{ap, subst, sym, zero-le}
use Rattle.std.specs.Coded.{le_prop}
use Rattle.arq_link.specs.declared.endpoint.Endpoint.{Endpoint}
use Rattle.arq_link.specs.declared.link.ArqLink.{ArqLink}
use Rattle.arq_link.specs.declared.telling.Telling.TheVariants.{Silent}
use Rattle.arq_link.specs.ArqLink.{endpoint_at, inner_of, lent, me_of, told_of}
use Rattle.arq_link.specs.Kept.{forgotten}
use Rattle.arq_link.specs.Calls.{Retells}
use Rattle.arq_link.proofs.ToldLaws.{retells_by}

module _ {D : Type 0} {B : _} where
  -- what it tells is what is made of what its inner link tells
  pub retells : (link : ArqLink D B) → Retells (B.told (inner_of link)) (told_of B.told link)
  retells link = retells_by link.telling (me_of link) (endpoint_at link) (B.told link.inner) link.stands

  -- it is lent, whatever shows that its peers are forgotten
  pub lent_is : (link : ArqLink D B) (inner : D) (e : Endpoint) → e ≡ forgotten link.endpoint → (reached : length e.sessions ≤ B.count inner)
      → ◌≡◌ {A = ArqLink D B} (record { alloc = link.alloc; inner = inner; endpoint = e; telling = Silent; reached = reached; stands = tt })
      (lent link inner)
  lent_is link inner e is = subst
      (λ (y : Endpoint). (p : length y.sessions ≤ B.count inner)
      → ◌≡◌ {A = ArqLink D B} (record { alloc = link.alloc; inner = inner; endpoint = y; telling = Silent; reached = p; stands = tt }) (lent link inner))
      (sym is) (λ p. ap {B = ArqLink D B} (λ (q : 0 ≤ B.count inner). record (lent link inner) { reached = q }) (le_prop p zero-le))
