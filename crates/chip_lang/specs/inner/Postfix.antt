-- Expressions in postfix order: the stack of trees that items leave (chosen by this project).
use Rattle.std.specs.Prelude.{ℕ, pos, List, [], ◌∷◌, ◌≡◌, ◌<◌, length, slice_index_or, refl}
use Rattle.std.specs.Coded.{Coded, code_by, coded_list, coded×, coded_ℕ}
use Rattle.std.specs.List.{All, fold, flat_map}
use Rattle.std.proofs.Common.{ap, ◌∙◌}
use Rattle.chip_lang.specs.contracts.postfix.Item as item_type
use Rattle.chip_lang.specs.declared.postfix.Item.{Item}
use Rattle.chip_lang.specs.declared.postfix.Item.TheVariants.{Number, Name, Unary, Binary, WithNumber, WithName}
use Rattle.chip_lang.specs.Expression.{Tree, number, name, unary, binary}

-- The tree on top of a stack. Below the last tree there are endless zeros, so each item has its
-- operands.
abbrev pub top : List Tree → Tree
top [] = number (pos 0)
top (t ∷ stack) = t

-- the stack without the tree on top
abbrev pub popped : List Tree → List Tree
popped [] = []
popped (t ∷ stack) = stack

-- the name with a number, counted from 0; an empty name past the last one
abbrev pub numbered : List (List ℕ) → ℕ → List ℕ
numbered names k = slice_index_or names k []

-- the stack after an item: a sign takes its operands from the top
abbrev pub pushed : List (List ℕ) → List Tree → Item → List Tree
pushed names stack (Number z) = number z ∷ stack
pushed names stack (Name k) = name (numbered names k) ∷ stack
pushed names stack (Unary sign) = unary sign (top stack) ∷ popped stack
pushed names stack (Binary sign) =
    binary sign (top (popped stack)) (top stack) ∷ popped (popped stack)
pushed names stack (WithNumber sign z) = binary sign (top stack) (number z) ∷ popped stack
pushed names stack (WithName sign k) =
    binary sign (top stack) (name (numbered names k)) ∷ popped stack

-- the stack that items leave, under these names
abbrev pub stack_of : List (List ℕ) → List Item → List Tree
stack_of names items = fold (pushed names) [] items

-- the name in an item, if it has one
abbrev pub name_of_item : List (List ℕ) → Item → List (List ℕ)
name_of_item names (Name k) = numbered names k ∷ []
name_of_item names (WithName sign k) = numbered names k ∷ []
name_of_item names i = []

-- the names in items
abbrev pub names_of : List (List ℕ) → List Item → List (List ℕ)
names_of names items = flat_map (name_of_item names) items

-- an item has no name, or one of the first `count` names
abbrev pub IsAmongFirst : ℕ → Item → Type 0
IsAmongFirst count (Name k) = k < count
IsAmongFirst count (WithName sign k) = k < count
IsAmongFirst count i = Unit

-- the items use each of the names once, from left to right
pub record AreNumbered (names : List (List ℕ)) (items : List Item) : Type 0 where
  pub within : All (IsAmongFirst (length names)) items
  pub all : names_of names items ≡ names

-- the items leave one tree and use each of the names once, from left to right
pub record IsWhole (names : List (List ℕ)) (items : List Item) : Type 0 where
  pub one : popped (stack_of names items) ≡ []
  pub all : names_of names items ≡ names

-- ---- a tree as items, each with the name in it; proofs use these items to tell two trees apart

abbrev pub pushed_named : List Tree → Item × List ℕ → List Tree
pushed_named stack (i, n) = pushed (n ∷ []) stack i

-- the items of a tree, put before other items
abbrev pub items_before : Tree → List (Item × List ℕ) → List (Item × List ℕ)
items_before (number z) rest = (Number z, []) ∷ rest
items_before (name n) rest = (Name 0, n) ∷ rest
items_before (unary sign a) rest = items_before a ((Unary sign, []) ∷ rest)
items_before (binary sign a b) rest =
    items_before a (items_before b ((Binary sign, []) ∷ rest))

pub fold-items_before : (t : Tree) (rest : List (Item × List ℕ)) (stack : List Tree)
    → fold pushed_named stack (items_before t rest) ≡ fold pushed_named (t ∷ stack) rest
fold-items_before (number z) rest stack = refl
fold-items_before (name n) rest stack = refl
fold-items_before (unary sign a) rest stack = fold-items_before a ((Unary sign, []) ∷ rest) stack
fold-items_before (binary sign a b) rest stack =
    fold-items_before a (items_before b ((Binary sign, []) ∷ rest)) stack
    ∙ fold-items_before b ((Binary sign, []) ∷ rest) (a ∷ stack)

pub top-items_before : (t : Tree) → top (fold pushed_named [] (items_before t [])) ≡ t
top-items_before t = ap top (fold-items_before t [] [])

abbrev pub tree_code : Coded Tree
tree_code =
    code_by (List (Item × List ℕ))
    (coded_list (coded× item_type.the_row.coded (coded_list coded_ℕ)))
    (λ t. items_before t []) (λ items. top (fold pushed_named [] items)) top-items_before

abbrev pub stack_code : Coded (List Tree)
stack_code = coded_list tree_code
