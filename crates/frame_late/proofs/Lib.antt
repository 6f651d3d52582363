mod StrLaws
