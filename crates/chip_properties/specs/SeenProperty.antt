-- Properties, apart from the places of their parts in memory (chosen by this project).
use Rattle.std.specs.Prelude.{ℕ, Bool, List, Option, map}
use Rattle.chip_explore.specs.declared.property.Term.{Term}
use Rattle.chip_explore.specs.declared.property.Sum.{Sum}
use Rattle.chip_explore.specs.declared.property.Relation.{Relation}
use Rattle.chip_explore.specs.declared.property.Comparison.{Comparison}
use Rattle.chip_explore.specs.declared.property.Condition.{Condition}
use Rattle.chip_explore.specs.declared.property.Property.{Property}
use Rattle.std.specs.Global.{Vec}
use Rattle.chip_properties.specs.declared.stated.Kind.{Kind}

pub record SeenSum : Type 0 where
  pub constant : ℕ
  pub terms : List Term

pub record SeenComparison : Type 0 where
  pub left : SeenSum
  pub relation : Relation
  pub right : SeenSum

pub record SeenCondition : Type 0 where
  pub is_all : Bool
  pub comparisons : List SeenComparison

pub record SeenProperty : Type 0 where
  pub condition : SeenCondition
  pub place : Option ℕ
  pub wanted : Bool

abbrev pub seen_sum : Sum → SeenSum
seen_sum s = record { constant = s.constant; terms = s.terms.items }

abbrev pub seen_comparison : Comparison → SeenComparison
seen_comparison c =
    record { left = seen_sum c.left; relation = c.relation; right = seen_sum c.right }

abbrev pub seen_comparisons : Vec Comparison → List SeenComparison
seen_comparisons cs = map seen_comparison cs.items

abbrev pub seen_condition : Condition → SeenCondition
seen_condition c = record { is_all = c.is_all; comparisons = seen_comparisons c.comparisons }

abbrev pub seen_property : Property → SeenProperty
seen_property p =
    record { condition = seen_condition p.condition; place = p.place; wanted = p.wanted }

abbrev pub seen_stated : Kind × Property → Kind × SeenProperty
seen_stated s = (s.0, seen_property s.1)
