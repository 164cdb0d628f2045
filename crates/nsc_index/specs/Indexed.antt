-- What is made ready for answers.
use Rattle.nsc_model.specs.Content.{Content}
use Rattle.nsc_index.specs.declared.indexed.ReadyContent.{ReadyContent}
use Rattle.nsc_index.specs.declared.indexed.ReadyContent.TheVariants.{Listed, Indexed}

-- the content, whichever way it is looked through
abbrev pub content_of : ReadyContent → Content
content_of (Listed content) = content
content_of (Indexed content) = content
