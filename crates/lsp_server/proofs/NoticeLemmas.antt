-- The last of some changes, and the diagnostics of a text.
use Rattle.std.proofs.Common.{◌≡◌, refl, subst, sym, ℕ, ◌-◌, List, [], ◌∷◌, ◌++◌, length, slice_get, arith, codes, Some, option_map}
use Rattle.serde_json.specs.Data.{Data, Members, number, object, put, string, unsigned}
use Rattle.serde_json.specs.Find.{get}
use Rattle.serde_json.specs.View.{items_view, view}
use Rattle.serde_json.specs.declared.value.Value.{Value}
use Rattle.serde_json.proofs.Views.{get_member-put}
use Rattle.da_commands.specs.Lines.{refused_text}
use Rattle.da_front.specs.declared.refusal.RefusedKind.{RefusedKind}
use Rattle.da_front.specs.Verdict.{Refuses}
use Rattle.lsp_server.specs.Notices.{AreWarnings, IsDiagnosed, IsWarning, last_item, refused}

-- the last of a list
last_at : (v : Value) (vs : List Value) (n : ℕ) → n ≡ length vs → last_item (items_view (v ∷ vs)) ≡ option_map view (slice_get (v ∷ vs) n)
last_at v [] n is = rw is refl
last_at v (w ∷ vs) n is = rw is (last_at w vs (length vs) refl)

pub last_seen : (vs : List Value) → last_item (items_view vs) ≡ option_map view (slice_get vs (length vs - 1))
last_seen [] = refl
last_seen (v ∷ vs) = last_at v vs (length (v ∷ vs) - 1) (omega arith)

-- the data of a diagnostic is what was put in last
pub data_put : (line : List ℕ) (old new : Members) (d : Data) → new ≡ put (codes "data") (string line) old → d ≡ object new → get (codes "data") d ≡ Some (string line)
data_put line old new d is made = rw (made, is) (get_member-put (codes "data") (string line) old)

-- the severity of a warning is what was put in last
pub severity_put : (level d : Data) (old new : Members) → level ≡ number (unsigned 2) → new ≡ put (codes "severity") level old → d ≡ object new → IsWarning d
severity_put level d old new is put_in made = rw (made, put_in, is) (get_member-put (codes "severity") (number (unsigned 2)) old)

-- one more warning
more_warned : (vs : List Value) (v : Value) → AreWarnings (items_view vs) → IsWarning (view v) → AreWarnings (items_view (vs ++ v ∷ []))
more_warned [] v warned is = (is, tt)
more_warned (w ∷ vs) v warned is = (warned.0, more_warned vs v warned.1 is)

pub warned_on : (old new : List Value) (v : Value) → new ≡ old ++ v ∷ [] → AreWarnings (items_view old) → IsWarning (view v) → AreWarnings (items_view new)
warned_on old new v grown warned is = subst (λ vs. AreWarnings (items_view vs)) (sym grown) (more_warned old v warned is)

-- none
pub none_warned : (vs : List Value) → vs ≡ [] → AreWarnings (items_view vs)
none_warned vs none = subst (λ xs. AreWarnings (items_view xs)) (sym none) tt

-- the diagnostics of what is refused
pub one_refused : (text : List ℕ) (kind : RefusedKind) (line : ℕ) (v : Value) (vs : List Value) → vs ≡ v ∷ [] → get (codes "data") (view v) ≡ Some (string (refused_text kind line)) → Refuses text kind line
    → IsDiagnosed text (items_view vs)
one_refused text kind line v vs is says refuses = subst (λ xs. IsDiagnosed text (items_view xs)) (sym is) (refused kind line (view v) refuses says)
