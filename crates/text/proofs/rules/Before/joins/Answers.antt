use Rattle.text.proofs.JoinRules.{in_extend, in_indicator, in_l, in_lf, in_other, in_t, in_v, picture_after_zwj, picture_alone}
use Rattle.text.proofs.rules.Before.joins.Goals as goal

pub returns-in-Other : goal.returns-in-Other
returns-in-Other c = in_other _ _ c.in-Other.is

pub returns-in-Extend : goal.returns-in-Extend
returns-in-Extend c = in_extend _ _ _ (rw (c.ends_in.ensures, c.ends_in-in-Extend.ensures, c.ends_in-in-Extend-2.ensures)) c.in-Extend.is

pub returns-in-L : goal.returns-in-L
returns-in-L c = in_l _ _ _ c.ends_in-in-L.ensures c.in-L.is

pub returns-in-V : goal.returns-in-V
returns-in-V c = in_v _ _ _ (rw (c.ends_in-in-V.ensures, c.ends_in-in-V-2.ensures, c.ends_in-in-V-3.ensures)) c.in-V.is

pub returns-in-T : goal.returns-in-T
returns-in-T c = in_t _ _ _ (rw (c.ends_in-in-T.ensures, c.ends_in-in-T-2.ensures, c.ends_in-in-T-3.ensures, c.ends_in-in-T-4.ensures)) c.in-T.is

pub returns-in-RegionalIndicator : goal.returns-in-RegionalIndicator
returns-in-RegionalIndicator c = in_indicator _ _ _ c.ends_in-in-RegionalIndicator.ensures c.in-RegionalIndicator.is

pub returns-in-PictographZwj : goal.returns-in-PictographZwj
returns-in-PictographZwj c = picture_after_zwj _ _ c.in-PictographZwj.is c.in-ExtendedPictographic.is

pub returns-in_default : goal.returns-in_default
returns-in_default c = picture_alone _ _ c.in_default.not-PictographZwj c.in-ExtendedPictographic.is

pub returns-in-Lf : goal.returns-in-Lf
returns-in-Lf c = in_lf _ _ _ c.ends_in-in-Lf.ensures c.in-Lf.is
