-- The ready policies' texts are sound.
use Rattle.std.proofs.Common.{◌≡◌, true, [], Some, refl}
use Rattle.html_clean_policy.specs.{Ready.{article_prefix, mail_properties, mail_rel, web_rel}, Sound.{are_sound}}

pub article_sound : are_sound [] article_prefix (Some web_rel) ≡ true
unfolding article_prefix web_rel
article_sound = refl

pub inline_sound : are_sound [] [] (Some web_rel) ≡ true
unfolding web_rel
inline_sound = refl

pub mail_sound : are_sound mail_properties [] (Some mail_rel) ≡ true
unfolding mail_properties mail_rel
mail_sound = refl
