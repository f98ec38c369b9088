use Rattle.std.proofs.Common.{◌*◌, ◌+◌}
use Rattle.hb_cert.proofs.recipe.Recipes.+recipe.Given as goal

abbrev pub decreases-agree : goal.decreases-agree
decreases-agree l = 2 * l.level

abbrev pub decreases-application : goal.decreases-application
decreases-application l = 2 * l.level

abbrev pub decreases-as_head : goal.decreases-as_head
decreases-as_head l = 2 * l.level

abbrev pub decreases-as_sort : goal.decreases-as_sort
decreases-as_sort l = 2 * l.level

abbrev pub decreases-convert : goal.decreases-convert
decreases-convert l = 2 * l.level

abbrev pub decreases-domain : goal.decreases-domain
decreases-domain l = 2 * l.level

abbrev pub decreases-function : goal.decreases-function
decreases-function l = 2 * l.level

abbrev pub decreases-product : goal.decreases-product
decreases-product l = 2 * l.level

abbrev pub decreases-projection : goal.decreases-projection
decreases-projection l = 2 * l.level

abbrev pub decreases-recipe : goal.decreases-recipe
decreases-recipe l = 2 * l.level

abbrev pub decreases-rule : goal.decreases-rule
decreases-rule l = 2 * l.level + 1
