-- `opening::signatures::lead_form` meets its contract. Assumes nothing.
use Rattle.std.proofs.Common.{rules}
use Rattle.opening.specs.Lead.{lead_form}
use Rattle.opening.proofs.signatures.lead_form.Goals as goal

pub returns-in-Wrap : goal.returns-in-Wrap
unfolding lead_form
returns-in-Wrap c = search rules

pub returns-in-Counted : goal.returns-in-Counted
unfolding lead_form
returns-in-Counted c = search rules

pub returns-in-Callable : goal.returns-in-Callable
unfolding lead_form
returns-in-Callable c = search rules

pub returns-in-Generic : goal.returns-in-Generic
unfolding lead_form
returns-in-Generic c = search rules

pub returns-in_default : goal.returns-in_default
unfolding lead_form
returns-in_default c = search rules
