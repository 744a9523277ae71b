use Rattle.typst_html_links_laws.proofs.SoundLinks.{exported_links_are_sound}
use Rattle.typst_html_links_laws.proofs.laws.exported_links_are_sound.Goals as goal

pub returns : goal.returns
returns c = exported_links_are_sound
