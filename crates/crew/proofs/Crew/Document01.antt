-- Another URI in a URI's stead, for document 01's profile.
use Rattle.std.proofs.Common.{subst}
use Rattle.text.specs.Class.Ascii.{AsciiClasses}
use Rattle.text.specs.Class.Profile01.{ascii_classes, profile_is}
use Rattle.text.specs.Width.{profile01}
use Rattle.crew.specs.Crew.{Unseen}
use Rattle.crew.proofs.Crew.{unseen}

pub unseen01 : Unseen profile01
unseen01 = unseen profile01 (subst AsciiClasses (profile_is (record { version = 0 })) (ascii_classes (record { version = 0 })))
