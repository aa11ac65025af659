-- The processes in a value, one layer at a time; which messages are declared; the blocks of statements.
use Rattle.std.specs.Prelude.{refl, ℕ, ℤ, Bool, List, [], ◌∷◌, ◌++◌, map, Option, Some, None, option_to_list, find, bytes_eq}
use Rattle.std.proofs.Common.{◌≡◌, ◌∙◌, ap, sym}
use Rattle.da_values.specs.declared.val.Val.{Val, roll-Val}
use Rattle.da_values.specs.declared.val.Val.TheVariants as val
use Rattle.da_values.specs.declared.val.Val.TheVariants.{outs-Text, outs-Tuple}
use Rattle.da_values.specs.declared.val.Val.TheOpen.{Val-F}
use Rattle.da_values.specs.declared.val.Val.TheFolds.{map-Val, fold-roll-Val}
use Rattle.da_lang.specs.declared.program.Alt.{Alt}
use Rattle.da_lang.specs.declared.program.BindArg.{BindArg}
use Rattle.da_lang.specs.declared.program.Item.{Item}
use Rattle.da_lang.specs.declared.program.ItemKind.TheVariants as it
use Rattle.da_lang.specs.declared.program.ItemKind.TheViews.{out-Alt, out-RBranch}
use Rattle.da_lang.specs.declared.program.RBranch.{RBranch}
use Rattle.da_lang.specs.declared.program.RExpr.{RExpr}
use Rattle.da_lang.specs.declared.tree.MessageDecl.{MessageDecl}
use Rattle.da_lang.specs.declared.ty.Ty.TheVariants as t
use Rattle.da_lang.specs.BodyMeaning.{item_at}
use Rattle.da_lang.specs.QueryTypes.{given, holds_of}
use Rattle.da_lang.specs.Shaped.{has_processes, processes_step, is_declared, blocks_of}
use Rattle.da_lang.specs.Types.{is_of, all_of}
use Rattle.da_lang.proofs.typing.TypesAt.{belonging}

has_processes_layer : (most : ℕ) (x : Val-F Val) → has_processes most (roll-Val x) ≡ processes_step most (map-Val Val Bool (has_processes most) x)
unfolding has_processes
has_processes_layer most x = fold-roll-Val Bool (processes_step most) x

pub has_processes-Int : (most : ℕ) (number : ℤ) → has_processes most (val.Int number) ≡ processes_step most (Val-F.Int number)
has_processes-Int most number = ap (has_processes most) (sym (val.rolls-Int number)) ∙ has_processes_layer most (Val-F.Int number)

pub has_processes-Bool : (most : ℕ) (truth : Bool) → has_processes most (val.Bool truth) ≡ processes_step most (Val-F.Bool truth)
has_processes-Bool most truth = ap (has_processes most) (sym (val.rolls-Bool truth)) ∙ has_processes_layer most (Val-F.Bool truth)

pub has_processes-Text : (most : ℕ) (bytes : List ℕ) → has_processes most (val.Text bytes) ≡ processes_step most (Val-F.Text bytes)
has_processes-Text most bytes = ap (has_processes most) (sym (val.rolls-Text bytes)) ∙ has_processes_layer most (Val-F.Text bytes)

pub has_processes-Proc : (most process : ℕ) → has_processes most (val.Proc process) ≡ processes_step most (Val-F.Proc process)
has_processes-Proc most process = ap (has_processes most) (sym (val.rolls-Proc process)) ∙ has_processes_layer most (Val-F.Proc process)

pub has_processes-Tuple : (most : ℕ) (parts : List Val) → has_processes most (val.Tuple parts) ≡ processes_step most (Val-F.Tuple (map (has_processes most) parts))
has_processes-Tuple most parts = ap (has_processes most) (sym (val.rolls-Tuple parts)) ∙ has_processes_layer most (Val-F.Tuple parts)

pub has_processes-Set : (most : ℕ) (elements : List Val) → has_processes most (val.Set elements) ≡ processes_step most (Val-F.Set (map (has_processes most) elements))
has_processes-Set most elements = ap (has_processes most) (sym (val.rolls-Set elements)) ∙ has_processes_layer most (Val-F.Set elements)

pub ruleset finding_processes = (has_processes-Int, has_processes-Bool, has_processes-Text, has_processes-Proc, has_processes-Tuple, has_processes-Set)

-- of a tuple that begins with a text the other parts are of the types that are declared for it
parts_of_message : (tag : List ℕ) (parts : List Val) (m : MessageDecl) → is_of (t.Tuple (t.Text ∷ m.parts)) (val.Tuple (val.Text tag ∷ parts)) ≡ all_of (map is_of m.parts) parts
parts_of_message tag parts m = simp (belonging, outs-Tuple, outs-Text) refl

declared_parts : (tag : List ℕ) (parts : List Val) (found : Option MessageDecl)
    → holds_of (given found (λ m. Some (t.Tuple (t.Text ∷ m.parts)))) (λ ty. is_of ty (val.Tuple (val.Text tag ∷ parts))) ≡ holds_of found (λ m. all_of (map is_of m.parts) parts)
declared_parts tag parts None = refl
declared_parts tag parts (Some m) = parts_of_message tag parts m

pub is_declared-of : (messages : List MessageDecl) (tag : List ℕ) (parts : List Val)
    → is_declared messages (val.Tuple (val.Text tag ∷ parts)) ≡ holds_of (find (λ m. bytes_eq m.tag tag) messages) (λ m. all_of (map is_of m.parts) parts)
is_declared-of messages tag parts = rw (outs-Tuple (val.Text tag ∷ parts)) (rw (outs-Text tag) (declared_parts tag parts (find (λ m. bytes_eq m.tag tag) messages)))

-- the blocks of each statement that has some
pub blocks_of-If : (line : ℕ) (branches : List RBranch) (other : List Item) → blocks_of (item_at line (it.If branches other)) ≡ map (λ b. (out-RBranch b).body) branches ++ other ∷ []
blocks_of-If line branches other = rw it.outs-If refl

pub blocks_of-While : (line : ℕ) (x : RExpr) (body : List Item) → blocks_of (item_at line (it.While x body)) ≡ body ∷ []
blocks_of-While line x body = rw it.outs-While refl

pub blocks_of-For : (line slot : ℕ) (x : RExpr) (body : List Item) → blocks_of (item_at line (it.For slot x body)) ≡ body ∷ []
blocks_of-For line slot x body = rw it.outs-For refl

pub blocks_of-Call : (line : ℕ) (args : List BindArg) (body : List Item) → blocks_of (item_at line (it.Call args body)) ≡ body ∷ []
blocks_of-Call line args body = rw it.outs-Call refl

pub blocks_of-Await : (line : ℕ) (alts : List Alt) (timeout : Option (List Item)) (label : Option ℕ) → blocks_of (item_at line (it.Await alts timeout label)) ≡ map (λ a. (out-Alt a).body) alts ++ option_to_list timeout
blocks_of-Await line alts timeout label = rw it.outs-Await refl

pub ruleset finding_blocks = (blocks_of-If, blocks_of-While, blocks_of-For, blocks_of-Call, blocks_of-Await)
