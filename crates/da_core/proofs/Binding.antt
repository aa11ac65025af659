-- Slots that take the parts of a row, one by one.
use Rattle.std.proofs.Common.{◌≡◌, ◌⊎◌, ℕ, List, [], ◌∷◌, Option, Some, None, refl, sym, ap, ◌∙◌, subst, inl, inr}
use Rattle.da_values.specs.declared.val.Val.{Val}
use Rattle.da_values.specs.declared.value.Value.{Value}
use Rattle.da_values.specs.Value.{val_of, vals}
use Rattle.da_lang.specs.declared.program.Class.{Class}
use Rattle.da_lang.specs.declared.program.Program.{Program}
use Rattle.da_lang.specs.Queries.{least_row}
use Rattle.da_lang.specs.Turns.{bind_all, bind_found, bind_row}
use Rattle.da_lang.specs.World.{Data, put_slot}
use Rattle.da_core.specs.declared.known.Known.{Known}
use Rattle.da_core.specs.declared.waits.Alternative.{Alternative}
use Rattle.da_core.specs.Begins.{bound_by}
use Rattle.da_core.specs.Known.{Becomes, Each, Knows, KnowsSome}

-- THE PARTS OF A ROW

-- of a row for these slots some parts are left for some slots: it stands for a process that knows the others
pub record BindsOf (slots : List ℕ) (row : List Val) (left : List ℕ) (parts : List Val) (p : Program) (class : Class) (d : Data) (now : Known) : Type 0 where
  pub so_far : Data
  pub knows : Knows now p class so_far
  pub same : bind_all left parts so_far ≡ bind_all slots row d

abbrev pub Binds : List ℕ → List Val → List ℕ → List Val → Known → Known → Type 0
Binds slots row left parts first now = Each first (λ p class d. BindsOf slots row left parts p class d now)

pub binds_first : (slots left : List ℕ) (row : List Val) (parts : List Value) (first : Known) → left ≡ slots → vals parts ≡ row → Binds slots row left (vals parts) first first
binds_first slots left row parts first is those p class d knows = record {
  so_far = d;
  knows = knows;
  same = ap (λ l. bind_all l (vals parts) d) is ∙ ap (λ vs. bind_all slots vs d) those;
}

-- the next slot takes the next part
pub binds_on : (slots left rest : List ℕ) (row : List Val) (parts others : List Value) (s : ℕ) (v : Value) (first now next : Known) → left ≡ s ∷ rest → parts ≡ v ∷ others
    → Becomes now next (λ d. put_slot d s (val_of v)) → Binds slots row left (vals parts) first now → Binds slots row rest (vals others) first next
binds_on slots left rest row parts others s v first now next is those puts so_far p class d knows =
    let by = so_far p class d knows in
    record {
      so_far = put_slot by.so_far s (val_of v);
      knows = puts p class by.so_far by.knows;
      same =
          sym (ap (λ l. bind_all l (vals (v ∷ others)) by.so_far) is)
          ∙ sym (ap (λ vs. bind_all left (vals vs) by.so_far) those)
          ∙ by.same;
    }

-- it still stands for some process
pub binds_some : (slots left : List ℕ) (row parts : List Val) (first now : Known) → KnowsSome first → Binds slots row left parts first now → KnowsSome now
binds_some slots left row parts first now (p, class, d, knows) so_far = let by = so_far p class d knows in (p, class, by.so_far, by.knows)

none_left : (slots : List ℕ) (parts : List Value) (d : Data) → (slots ≡ []) ⊎ (parts ≡ []) → d ≡ bind_all slots (vals parts) d
none_left [] parts d is = refl
none_left (s ∷ ss) [] d is = refl
none_left (s ∷ ss) (v ∷ vs) d (inl is) = absurd (let none : ◌≡◌ {A = List ℕ} (s ∷ ss) [] = is in cc)
none_left (s ∷ ss) (v ∷ vs) d (inr is) = absurd (let none : ◌≡◌ {A = List Value} (v ∷ vs) [] = is in cc)

-- after the last slot or the last part
pub binds_end : (slots left : List ℕ) (row : List Val) (parts : List Value) (first now : Known) → (left ≡ []) ⊎ (parts ≡ []) → Binds slots row left (vals parts) first now → Becomes first now (bind_all slots row)
binds_end slots left row parts first now past so_far p class d knows =
    let by = so_far p class d knows in
    subst (Knows now p class) (none_left left parts by.so_far past ∙ by.same) by.knows

-- THE ROW OF AN ALTERNATIVE

-- that is found by its query
pub found_bound : (known new : Known) (alternative : Alternative) (q : ℕ) (row : List Val) (slots : List ℕ) → alternative.found ≡ Some q → slots ≡ alternative.binds
    → Each known (λ p class d. ◌≡◌ {A = Option (List Val)} (Some row) (least_row class.queries q d)) → Becomes known new (bind_all slots row)
    → Each known (λ p class d. Knows new p class (bound_by class (Some alternative) d))
found_bound known new alternative q row slots asks are least binds p class d knows =
    subst (Knows new p class)
    (ap (λ ss. bind_all ss row d) are ∙ ap (λ found. bind_row alternative.binds found d) (least p class d knows) ∙ sym (ap (λ n. bind_found class.queries n alternative.binds d) asks))
    (binds p class d knows)

-- there is none
pub none_bound : (known : Known) (alternative : Alternative) (q : ℕ) → alternative.found ≡ Some q → Each known (λ p class d. ◌≡◌ {A = Option (List Val)} None (least_row class.queries q d))
    → Each known (λ p class d. Knows known p class (bound_by class (Some alternative) d))
none_bound known alternative q asks none p class d knows =
    subst (Knows known p class)
    (ap (λ found. bind_row alternative.binds found d) (none p class d knows) ∙ sym (ap (λ n. bind_found class.queries n alternative.binds d) asks))
    knows
