-- The extents of the copies of methods, found by their names.
use Rattle.std.specs.Prelude.{◌≡◌, ℕ, List, Option, Some, option_and_then, slice_get, unwrap_or}
use Rattle.std.proofs.Common.{◌∙◌, ap, sym}
use Rattle.da_calls.specs.CallGraph.{number_of}
use Rattle.da_limits.specs.Copied.{copied, copied_by}
use Rattle.da_limits.specs.declared.copies.Copies.{Copies}
use Rattle.da_limits.specs.declared.extent.Extent.{Extent}
use Rattle.da_limits.specs.Extents.{nothing}

pub copied-found : (copies : Copies) (name : List ℕ) (number : Option ℕ) (k : ℕ) (found : Option Extent)
    → number ≡ number_of copies.graph.now name → number ≡ Some k → found ≡ slice_get copies.extents k → copied copies name ≡ unwrap_or found nothing
unfolding copied copied_by
copied-found copies name number k found named is here =
    ap (λ n. unwrap_or (option_and_then (slice_get copies.extents) n) nothing) (sym named ∙ is) ∙ ap (λ e. unwrap_or e nothing) (sym here)
