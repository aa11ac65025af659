-- Actions that have none of the forms that are named.
use Rattle.std.proofs.Common.{◌≡◌, refl, sym, ◌∙◌, ap, ℕ, false, List, [], ◌++◌}
use Rattle.std.specs.Prelude.{None, OnOk, Result, Ok, Err}
use Rattle.da_lang.specs.declared.event.Action.{Action}
use Rattle.da_lang.specs.declared.event.Action.TheVariants.{Answer, End, Fault, Got, Lost, Out, Sent, Stop, Took}
use Rattle.da_lang.specs.declared.event.FaultKind.{FaultKind}
use Rattle.da_values.specs.declared.list.NoMemory.{NoMemory}
use Rattle.da_values.specs.declared.val.Val.{Val}
use Rattle.da_values.specs.declared.value.Value.{Value}
use Rattle.trace_page.specs.declared.page.Page.{Page}
use Rattle.trace_page.specs.Arrows.{arrow_parts}
use Rattle.trace_page.specs.PageText.{mark_parts, parts_at, past_of, stop_parts}
use Rattle.trace_page.specs.Parts.{Part, parts_text}
use Rattle.trace_page.specs.Rows.{Spot, comes_later, may_go_on, query_of}
use Rattle.trace_page.specs.Shapes.{is_left}
use Rattle.trace_page.specs.Sheets.{ended_by, sent_by}

pub query_others : (a : Action) → ((p n : ℕ) (rows : List Val) → a ≡ Answer p n rows → ⊥) → 0 ≡ query_of a
query_others (Answer p n rows) none = absurd (none p n rows refl)
query_others _ none = refl

pub go_on_others : (a : Action) → ((p k : ℕ) → a ≡ Took p k → ⊥) → ((q p t : ℕ) (v : Value) → a ≡ Got q p t v → ⊥) → ((p q t : ℕ) (v : Value) → a ≡ Sent p q t v → ⊥) → ((p : ℕ) (v : Value) → a ≡ Out p v → ⊥)
    → false ≡ may_go_on a
go_on_others (Took p k) took got sent out = absurd (took p k refl)
go_on_others (Got q p t v) took got sent out = absurd (got q p t v refl)
go_on_others (Sent p q t v) took got sent out = absurd (sent p q t v refl)
go_on_others (Out p v) took got sent out = absurd (out p v refl)
go_on_others _ took got sent out = refl

pub later_others : (a : Action) → ((p q t : ℕ) (v : Value) → a ≡ Sent p q t v → ⊥) → ((p : ℕ) (v : Value) → a ≡ Out p v → ⊥) → ((p : ℕ) → a ≡ End p → ⊥) → ((p : ℕ) (kind : FaultKind) (line : ℕ) → a ≡ Fault p kind line → ⊥)
    → false ≡ comes_later a
later_others (Sent p q t v) sent out over fault = absurd (sent p q t v refl)
later_others (Out p v) sent out over fault = absurd (out p v refl)
later_others (End p) sent out over fault = absurd (over p refl)
later_others (Fault p kind line) sent out over fault = absurd (fault p kind line refl)
later_others _ sent out over fault = refl

pub left_others : (a : Action) → ((p q t : ℕ) (v : Value) → a ≡ Sent p q t v → ⊥) → ((q p t : ℕ) (v : Value) → a ≡ Got q p t v → ⊥) → false ≡ is_left a
left_others (Sent p q t v) sent got = absurd (sent p q t v refl)
left_others (Got q p t v) sent got = absurd (got q p t v refl)
left_others _ sent got = refl

pub sent_others : (a : Action) → ((p q t : ℕ) (v : Value) → a ≡ Sent p q t v → ⊥) → sent_by a ≡ None
sent_others (Sent p q t v) sent = absurd (sent p q t v refl)
sent_others _ sent = refl

pub ended_others : (a : Action) → ((q p t : ℕ) (v : Value) → a ≡ Got q p t v → ⊥) → ((p q t : ℕ) → a ≡ Lost p q t → ⊥) → ended_by a ≡ None
ended_others (Got q p t v) got lost = absurd (got q p t v refl)
ended_others (Lost p q t) got lost = absurd (lost p q t refl)
ended_others _ got lost = refl

-- WHAT IS WRITTEN OF THEM

pub same_parts : {T : Type 0} (parts others : List Part) (old new : List ℕ) (r : Result T NoMemory) → parts ≡ others → OnOk r (new ≡ old ++ parts_text parts) → OnOk r (new ≡ old ++ parts_text others)
same_parts parts others old new (Ok x) same put = put ∙ ap (λ (ps : List Part). old ++ parts_text ps) same
same_parts parts others old new (Err e) same put = tt

module _ (page : Page) (event line : ℕ) where
  pub arrow_others : (spots : List Spot) (a : Action) → ((q p t : ℕ) (v : Value) → a ≡ Got q p t v → ⊥) → ((p q t : ℕ) → a ≡ Lost p q t → ⊥) → ((p q t : ℕ) (v : Value) → a ≡ Sent p q t v → ⊥)
      → [] ≡ arrow_parts page spots event line a
  arrow_others spots (Got q p t v) got lost sent = absurd (got q p t v refl)
  arrow_others spots (Lost p q t) got lost sent = absurd (lost p q t refl)
  arrow_others spots (Sent p q t v) got lost sent = absurd (sent p q t v refl)
  arrow_others spots _ got lost sent = refl

  pub past_others : (a : Action) → ((p : ℕ) → a ≡ End p → ⊥) → ((p : ℕ) (kind : FaultKind) (l : ℕ) → a ≡ Fault p kind l → ⊥) → [] ≡ past_of page line a
  past_others (End p) over fault = absurd (over p refl)
  past_others (Fault p kind l) over fault = absurd (fault p kind l refl)
  past_others _ over fault = refl

  pub mark_others : (a : Action) → ((i : ℕ) → a ≡ Stop i → ⊥) → mark_parts page event line a ≡ parts_at page event line a
  mark_others (Stop i) stop = absurd (stop i refl)
  mark_others _ stop = refl

  pub stop_is : (a : Action) (i : ℕ) → a ≡ Stop i → stop_parts page event line a ≡ parts_at page event line a
  stop_is a i is = ap (λ (x : Action). stop_parts page event line x) is ∙ ap (λ (x : Action). parts_at page event line x) (sym is)
