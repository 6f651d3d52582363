mod WindowLaws
