-- What contracts see of a reliable link.
use Rattle.std.specs.Prelude.{◌≡◌, ℕ, List, length, Option}
use Rattle.std.proofs.Common.{zero-le}
use Rattle.da_outside.specs.declared.link.LinkEntry.{LinkEntry}
use Rattle.arq_link.specs.declared.link.ArqLink.{ArqLink}
use Rattle.arq_link.specs.declared.telling.Telling.TheVariants.{Unbound, Whole, Silent}
use Rattle.arq_link.specs.Endpoint.{Endpoint}
use Rattle.arq_link.specs.Kept.{endpoint_of, forgotten}
use Rattle.arq_link.specs.Told.{after_failure, told_by}

module _ {D : Type 0} {B : _} where
  -- the inner link
  abbrev pub inner_of : ArqLink D B → D
  inner_of link = link.inner

  -- the process by the last binding, and its endpoint
  abbrev pub me_of : ArqLink D B → ℕ
  me_of link = link.endpoint.me

  abbrev pub endpoint_at : ArqLink D B → Endpoint
  endpoint_at link = endpoint_of link.endpoint

  -- how many processes there are by it
  abbrev pub count_of : ArqLink D B → ℕ
  count_of link = length link.endpoint.sessions

  -- what it tells, by what inner links tell
  abbrev pub told_of : (D → Option (List LinkEntry)) → ArqLink D B → Option (List LinkEntry)
  told_of told link = told_by link.telling (told link.inner)

  -- it was never bound, and no call has failed; or it tells all since its binding
  abbrev pub IsUnbound : ArqLink D B → Type 0
  IsUnbound link = link.telling ≡ Unbound

  abbrev pub Tells : ArqLink D B → Type 0
  Tells link = link.telling ≡ Whole

  -- a call has failed, after which it tells what it told before, and nothing from the next one on
  abbrev pub HasFailed : (old new : ArqLink D B) → Type 0
  HasFailed old new = new.telling ≡ after_failure old.telling

  -- its inner link was lent, and is this one now
  abbrev pub lent : ArqLink D B → D → ArqLink D B
  lent link inner = record link { inner = inner; endpoint = forgotten link.endpoint; telling = Silent; reached = zero-le; stands = tt }
