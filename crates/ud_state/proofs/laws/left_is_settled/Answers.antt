use Rattle.ud_state.proofs.Leaving.{settled_each, images_left, left_leads}
use Rattle.ud_state.proofs.laws.left_is_settled.Goals as goal

pub returns-clause-settled : goal.returns-clause-settled
returns-clause-settled c = λ cs t never. settled_each cs t (λ left. never (record { is = left }))

pub returns-clause-images : goal.returns-clause-images
returns-clause-images c = λ cs t ims some. record { is = images_left cs t ims some }

pub returns-clause-leads : goal.returns-clause-leads
returns-clause-leads c = λ old new o settled past left. left_leads old new o settled past left.is
