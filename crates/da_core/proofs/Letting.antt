-- Which messages are taken at a label, by the handlers one after the other.
use Rattle.std.proofs.Common.{◌≡◌, ◌⊎◌, List, [], ◌∷◌, refl, sym, ap, ◌∙◌, inl, inr}
use Rattle.std.specs.Prelude.{ℕ, Bool, true, false, not, ◌||◌, map}
use Rattle.std.specs.List.{filter, list_any}
use Rattle.da_values.specs.Value.{val_of}
use Rattle.da_lang.specs.declared.program.Handler.{Handler}
use Rattle.da_lang.specs.Labels.{is_open, may_match}
use Rattle.da_core.specs.declared.deliveries.Delivery.{Delivery}
use Rattle.da_core.specs.declared.opened.Opened.{Opened}
use Rattle.da_core.specs.Opened.{lets_in, opened, taken_by}

-- which handlers match, and which ones are open
module _ (matches stands_open : Handler → Bool) where
  -- those of these that are left decide, where a closed one matched before, or none did
  abbrev decide : Bool → List Handler → Bool
  decide true hs = list_any matches (filter stands_open hs)
  decide false hs = not (list_any matches hs) || list_any matches (filter stands_open hs)

  open_one : (h : Handler) (hs : List Handler) (held : Bool) → matches h ≡ true → stands_open h ≡ true → decide held (h ∷ hs) ≡ true
  open_one h hs true is here = rw (here, is) refl
  open_one h hs false is here = rw (here, is) refl

  closed_one : (h : Handler) (hs : List Handler) (held : Bool) → matches h ≡ true → stands_open h ≡ false → decide held (h ∷ hs) ≡ decide true hs
  closed_one h hs true is here = rw here refl
  closed_one h hs false is here = rw (is, here) refl

  other_one : (h : Handler) (hs : List Handler) (held b : Bool) → matches h ≡ false → stands_open h ≡ b → decide held (h ∷ hs) ≡ decide held hs
  other_one h hs true true is here = rw (here, is) refl
  other_one h hs true false is here = rw here refl
  other_one h hs false true is here = rw (here, is) refl
  other_one h hs false false is here = rw (here, is) refl

  at_end : (held : Bool) → decide held [] ≡ not held
  at_end true = refl
  at_end false = refl

-- the handlers and opened patterns that are left decide whether process `me` takes the message
pub record Decides (x : Delivery) (me : ℕ) (held : Bool) (left : List Handler) (patterns : List Opened) : Type 0 where
  pub are : patterns ≡ map opened left
  pub rest : taken_by (may_match me (val_of x.message.now) x.from) x.label x.class.now.handlers ≡ decide (may_match me (val_of x.message.now) x.from) (is_open x.label) held left

pub decides_first : (x : Delivery) (me : ℕ) (these : List Handler) (patterns : List Opened) → these ≡ x.class.now.handlers → patterns ≡ x.code.now.opened
    → x.code.now.opened ≡ map opened x.class.now.handlers → Decides x me false these patterns
decides_first x me these patterns hs ps all = record {
  are = ps ∙ all ∙ ap (map opened) (sym hs);
  rest = ap (λ l. taken_by (may_match me (val_of x.message.now) x.from) x.label l) (sym hs);
}

-- before a handler and its patterns
module _ (x : Delivery) (me : ℕ) (held : Bool) (left hs : List Handler) (ps qs : List Opened) (h : Handler) (q : Opened) (is : left ≡ h ∷ hs) (those : ps ≡ q ∷ qs) (now : Decides x me held left ps) where
  abbrev matches : Handler → Bool
  matches = may_match me (val_of x.message.now) x.from

  both : q ∷ qs ≡ opened h ∷ map opened hs
  both = sym those ∙ now.are ∙ ap (map opened) is

  pub patterns_are : q ≡ opened h
  patterns_are = let all = both in cc

  others_are : qs ≡ map opened hs
  others_are = let all = both in cc

  rest_is : taken_by matches x.label x.class.now.handlers ≡ decide matches (is_open x.label) held (h ∷ hs)
  rest_is = now.rest ∙ ap (decide matches (is_open x.label) held) is

  -- what was asked of the patterns is asked of the handler
  asked : (b : Bool) → b ≡ lets_in me (val_of x.message.now) x.from q → matches h ≡ b
  asked b is_so = sym (is_so ∙ ap (lets_in me (val_of x.message.now) x.from) patterns_are)

  pub by_open : (b : Bool) → b ≡ lets_in me (val_of x.message.now) x.from q → b ≡ true → is_open x.label h ≡ true → true ≡ taken_by matches x.label x.class.now.handlers
  by_open b is_so true' here = sym (rest_is ∙ open_one matches (is_open x.label) h hs held (asked b is_so ∙ true') here)

  pub by_closed : (b : Bool) → b ≡ lets_in me (val_of x.message.now) x.from q → b ≡ true → is_open x.label h ≡ false → Decides x me true hs qs
  by_closed b is_so true' here = record {
    are = others_are;
    rest = rest_is ∙ closed_one matches (is_open x.label) h hs held (asked b is_so ∙ true') here;
  }

  pub by_other : (b : Bool) → b ≡ lets_in me (val_of x.message.now) x.from q → b ≡ false → Decides x me held hs qs
  by_other b is_so false' = record {
    are = others_are;
    rest = rest_is ∙ other_one matches (is_open x.label) h hs held (is_open x.label h) (asked b is_so ∙ false') refl;
  }

-- after the last one
pub by_none : (x : Delivery) (me : ℕ) (held : Bool) (left : List Handler) (ps : List Opened) → (left ≡ []) ⊎ (ps ≡ []) → Decides x me held left ps
    → not held ≡ taken_by (may_match me (val_of x.message.now) x.from) x.label x.class.now.handlers
by_none x me held left ps (inl is) now =
    sym (now.rest ∙ ap (decide (may_match me (val_of x.message.now) x.from) (is_open x.label) held) is ∙ at_end (may_match me (val_of x.message.now) x.from) (is_open x.label) held)
by_none x me held [] ps (inr is) now = sym (now.rest ∙ at_end (may_match me (val_of x.message.now) x.from) (is_open x.label) held)
by_none x me held (h ∷ hs) ps (inr is) now = absurd (let none : ◌≡◌ {A = List Opened} [] (opened h ∷ map opened hs) = sym is ∙ now.are in cc)
