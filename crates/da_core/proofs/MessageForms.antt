-- Which messages are declared, which values are of a type, and which processes they have, by the forms of kept values.
use Rattle.std.specs.Prelude.{◌≡◌, ℕ, ◌≤◌, ◌-◌, ◌==◌, nat_lt, nat_le, Bool, true, false, ◌&&◌, List, [], ◌∷◌, map, Option, None, Some, length, take, drop, get_or, find, bytes_eq, refl}
use Rattle.std.specs.List.{list_all}
use Rattle.std.proofs.Common.{◌∙◌, ap, arith, sym, rules}
use Rattle.std.proofs.lemmas.List.{at_drop_all, take_rest}
use Rattle.std.proofs.lemmas.List.Folds.{list_all-map}
use Rattle.da_values.specs.declared.val.Val.{Val}
use Rattle.da_values.specs.declared.val.Val.TheOpen.{Val-F}
use Rattle.da_values.specs.declared.val.Val.TheVariants as val
use Rattle.da_values.specs.declared.value.Value.{Value}
use Rattle.da_values.specs.declared.value.Value.TheVariants as kept
use Rattle.da_values.specs.Layer.{layer, out-val_of}
use Rattle.da_values.specs.Value.{val_of, vals}
use Rattle.da_lang.specs.declared.tree.MessageDecl.{MessageDecl}
use Rattle.da_lang.specs.declared.ty.Ty.{Ty}
use Rattle.da_lang.specs.declared.ty.Ty.TheVariants as t
use Rattle.da_lang.specs.QueryTypes.{declared, given, holds_of}
use Rattle.da_lang.specs.Shaped.{has_processes, is_declared, tag_of}
use Rattle.da_lang.specs.Types.{is_of, all_of, int_value, bool_value, text_value, proc_value, tuple_value, set_value}
use Rattle.da_lang.proofs.typing.ShapedAt.{has_processes-Int, has_processes-Bool, has_processes-Text, has_processes-Proc, has_processes-Tuple, has_processes-Set, is_declared-of}
use Rattle.da_lang.proofs.typing.TypesAt.{is_of_at-Int, is_of_at-Bool, is_of_at-Text, is_of_at-Proc, is_of_at-Tuple, is_of_at-Set}

-- the processes in a kept value
abbrev pub processes_at : ℕ → Value → Bool
processes_at most (kept.Proc process) = nat_lt 0 process && nat_le process most
processes_at most (kept.Tuple parts) = list_all (has_processes most) parts
processes_at most (kept.Set elements) = list_all (has_processes most) elements
processes_at most _ = true

pub has_processes_of : (most : ℕ) (v : Value) → has_processes most (val_of v) ≡ processes_at most v
has_processes_of most (kept.Int number) = has_processes-Int most number
has_processes_of most (kept.Bool truth) = has_processes-Bool most truth
has_processes_of most (kept.Text bytes) = has_processes-Text most bytes
has_processes_of most (kept.Proc process) = has_processes-Proc most process
has_processes_of most (kept.Tuple parts) = has_processes-Tuple most parts ∙ list_all-map (λ (b : Bool). b) (has_processes most) parts
has_processes_of most (kept.Set elements) = has_processes-Set most elements ∙ list_all-map (λ (b : Bool). b) (has_processes most) elements

-- a kept value of each form of type
pub kept_of-Int : (v : Value) → is_of t.Int (val_of v) ≡ int_value (layer v)
kept_of-Int v = is_of_at-Int (val_of v) ∙ ap int_value (out-val_of v)

pub kept_of-Bool : (v : Value) → is_of t.Bool (val_of v) ≡ bool_value (layer v)
kept_of-Bool v = is_of_at-Bool (val_of v) ∙ ap bool_value (out-val_of v)

pub kept_of-Text : (v : Value) → is_of t.Text (val_of v) ≡ text_value (layer v)
kept_of-Text v = is_of_at-Text (val_of v) ∙ ap text_value (out-val_of v)

pub kept_of-Proc : (v : Value) → is_of t.Proc (val_of v) ≡ proc_value (layer v)
kept_of-Proc v = is_of_at-Proc (val_of v) ∙ ap proc_value (out-val_of v)

pub kept_of-Tuple : (types : List Ty) (v : Value) → is_of (t.Tuple types) (val_of v) ≡ tuple_value (map is_of types) (layer v)
kept_of-Tuple types v = is_of_at-Tuple types (val_of v) ∙ ap (tuple_value (map is_of types)) (out-val_of v)

pub kept_of-Set : (element : Ty) (v : Value) → is_of (t.Set element) (val_of v) ≡ set_value (is_of element) (layer v)
kept_of-Set element v = is_of_at-Set element (val_of v) ∙ ap (set_value (is_of element)) (out-val_of v)

pub ruleset belonging = (kept_of-Int, kept_of-Bool, kept_of-Text, kept_of-Proc, kept_of-Tuple, kept_of-Set)

-- a kept message
pub declared_as : (messages : List MessageDecl) (v : Value)
    → is_declared messages (val_of v) ≡ holds_of (given (tag_of (layer v)) (declared messages)) (λ ty. is_of ty (val_of v))
declared_as messages v = ap (λ outer. holds_of (given (tag_of outer) (declared messages)) (λ ty. is_of ty (val_of v))) (out-val_of v)

-- the parts of a message, by what stands first
abbrev pub parts_fit : List Val → Option MessageDecl → Bool
parts_fit parts None = false
parts_fit parts (Some m) = all_of (map is_of m.parts) parts

parts_found : (parts : List Val) (found : Option MessageDecl) → holds_of found (λ m. all_of (map is_of m.parts) parts) ≡ parts_fit parts found
parts_found parts None = refl
parts_found parts (Some m) = refl

abbrev pub message_with : List MessageDecl → List Value → Val-F Val → Bool
message_with messages rest (Val-F.Text tag) = parts_fit (vals rest) (find (λ m. bytes_eq m.tag tag) messages)
message_with messages rest _ = false

abbrev pub message_in : List MessageDecl → List Value → Bool
message_in messages [] = false
message_in messages (first ∷ rest) = message_with messages rest (layer first)

pub message_of : (messages : List MessageDecl) (parts : List Value) → is_declared messages (val.Tuple (vals parts)) ≡ message_in messages parts
message_of messages [] = rw (val.outs-Tuple []) refl
message_of messages (kept.Int number ∷ rest) = rw (val.outs-Tuple (val.Int number ∷ vals rest)) (rw (val.outs-Int number) refl)
message_of messages (kept.Bool truth ∷ rest) = rw (val.outs-Tuple (val.Bool truth ∷ vals rest)) (rw (val.outs-Bool truth) refl)
message_of messages (kept.Text tag ∷ rest) = is_declared-of messages tag (vals rest) ∙ parts_found (vals rest) (find (λ m. bytes_eq m.tag tag) messages)
message_of messages (kept.Proc process ∷ rest) = rw (val.outs-Tuple (val.Proc process ∷ vals rest)) (rw (val.outs-Proc process) refl)
message_of messages (kept.Tuple parts ∷ rest) = rw (val.outs-Tuple (val.Tuple parts ∷ vals rest)) (rw (val.outs-Tuple parts) refl)
message_of messages (kept.Set elements ∷ rest) = rw (val.outs-Tuple (val.Set elements ∷ vals rest)) (rw (val.outs-Set elements) refl)

-- the values after the tag are those of the message that was found
pub found_parts : (messages : List MessageDecl) (parts : List Value) (first : Value) (tag : List ℕ) (m : MessageDecl) (types : List Ty) (b : Bool)
    → 1 ≤ length parts → first ≡ get_or parts 0 first → first ≡ kept.Text tag → Some m ≡ find (λ d. bytes_eq d.tag tag) messages → types ≡ m.parts
    → b ≡ all_of (map is_of types) (vals (take (length parts - 1) (drop 1 parts))) → b ≡ is_declared messages (val.Tuple (vals parts))
found_parts messages [] first tag m types b some here text found known fit = absurd (omega (arith, some))
found_parts messages (v ∷ vs) first tag m types b some here text found known fit =
    fit
    ∙ ap (λ ts. all_of (map is_of ts) (vals (take (length (v ∷ vs) - 1) (drop 1 (v ∷ vs))))) known
    ∙ ap (λ us. all_of (map is_of m.parts) (vals us)) (take_rest (v ∷ vs) 1)
    ∙ ap (parts_fit (vals vs)) found
    ∙ ap (λ u. message_with messages vs (layer u)) (sym text ∙ here)
    ∙ sym (message_of messages (v ∷ vs))

-- where the values end, each had a type of its own, and none may be left
none_left : (left : List Ty) → (length left == 0) ≡ all_of (map is_of left) []
none_left [] = refl
none_left (ty ∷ types) = search rules

pub values_end : (types left : List Ty) (values : List Value) (i : ℕ) (b : Bool) → length values ≤ i
    → all_of (map is_of left) (vals (drop i values)) ≡ all_of (map is_of types) (vals values)
    → b ≡ (length left == 0) → b ≡ all_of (map is_of types) (vals values)
values_end types left values i b end so_far empty =
    empty ∙ (none_left left ∙ (sym (at_drop_all (λ vs. all_of (map is_of left) (vals vs)) values i end) ∙ so_far))
